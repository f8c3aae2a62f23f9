use Rattle.std.proofs.Common.{◌∙◌, refl, rules}
use Rattle.zr_vdev.proofs.Follows.{continues_itself}
use Rattle.zr_vdev.proofs.Moves.{begins_held}
use Rattle.zr_sync.proofs.Objects.{now_still, now_held}
use Rattle.zr_sync.proofs.stores.put_group.Goals as goal

pub returns-clause-writes : goal.returns-clause-writes
returns-clause-writes g c = λ s h stored.
    let v = c.new-store.ensures in
    let f = c.write_group.ensures.follows c.new-store.result (refl, refl, refl, refl, continues_itself _ _ _ _ _ _ _ _) in
    let mount = f.3 ∙ v.mount in
    let store = c.write_group.new.store in
    now_held (λ m held. search (rules, held, f, mount))
    (now_still _ _ s c.args.changed.now c.args.dir.now c.in_ok-write_group.field-0 h.alone stored
    (λ m held. begins_held store.mount.kind store.mount.slots.now (g.S.Shelf.tells store.shelf.now) (g.S.Shelf.world store.shelf.now).now.seen store.space.now store.lost store.cache.now m held)
    (c.in_ok-write_group.ensures.writes s (rw (v.space, v.shelf, v.cache, v.lost, v.mount) h) stored))

pub returns-in_err-write_group-clause-continues : goal.returns-in_err-write_group-clause-continues
returns-in_err-write_group-clause-continues g c =
    let v = c.new-store.ensures in
    let f = c.write_group.ensures.follows c.new-store.result (refl, refl, refl, refl, continues_itself _ _ _ _ _ _ _ _) in
    let mount = f.3 ∙ v.mount in
    let goes = f.4 in
    search (rules, goes, v, mount)

pub returns-clause-continues : goal.returns-clause-continues
returns-clause-continues g c =
    let v = c.new-store.ensures in
    let f = c.write_group.ensures.follows c.new-store.result (refl, refl, refl, refl, continues_itself _ _ _ _ _ _ _ _) in
    let mount = f.3 ∙ v.mount in
    let goes = f.4 in
    search (rules, goes, v, mount)
