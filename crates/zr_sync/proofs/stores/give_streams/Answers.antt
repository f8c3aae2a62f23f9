use Rattle.std.proofs.Common.{◌∙◌, refl, rules}
use Rattle.zr_commit.specs.Logs.{streams_reach}
use Rattle.zr_vdev.proofs.Follows.{continues_itself}
use Rattle.zr_vdev.proofs.Moves.{begins_held}
use Rattle.zr_sync.proofs.Objects.{now_held}
use Rattle.zr_sync.proofs.Streams.{now_given}
use Rattle.zr_sync.proofs.stores.give_streams.Goals as goal

pub returns-clause-gives : goal.returns-clause-gives
returns-clause-gives g c = λ s h stored.
    let v = c.new-store.ensures in
    let f = c.give_each.ensures.follows c.new-store.result (refl, refl, refl, refl, continues_itself _ _ _ _ _ _ _ _) in
    let mount = f.3 ∙ v.mount in
    let store = c.give_each.new.store in
    now_held (λ m held. search (rules, held, f, mount))
    (now_given _ _ s (streams_reach s c.args.streams.now)
    (λ m held. begins_held store.mount.kind store.mount.slots.now (g.S.Shelf.tells store.shelf.now) (g.S.Shelf.world store.shelf.now).now.seen store.space.now store.lost store.cache.now m held)
    (c.in_ok-give_each.ensures.gives s (rw (v.space, v.shelf, v.cache, v.lost, v.mount) h) stored))

pub returns-in_err-give_each-clause-continues : goal.returns-in_err-give_each-clause-continues
returns-in_err-give_each-clause-continues g c =
    let v = c.new-store.ensures in
    let f = c.give_each.ensures.follows c.new-store.result (refl, refl, refl, refl, continues_itself _ _ _ _ _ _ _ _) in
    let mount = f.3 ∙ v.mount in
    let goes = f.4 in
    search (rules, goes, v, mount)
