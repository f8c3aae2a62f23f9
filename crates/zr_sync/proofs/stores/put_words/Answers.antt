use Rattle.std.proofs.Common.{◌∙◌, refl, rules}
use Rattle.zr_vdev.proofs.Follows.{continues_itself}
use Rattle.zr_vdev.proofs.Moves.{begins_held}
use Rattle.zr_sync.proofs.Objects.{now_held}
use Rattle.zr_sync.proofs.Streams.{now_stored}
use Rattle.zr_sync.proofs.stores.put_words.Goals as goal

pub returns-clause-stores : goal.returns-clause-stores
returns-clause-stores g c = λ s h.
    let v = c.new-store.ensures in
    let f = c.write_stream.ensures.follows c.new-store.result (refl, refl, refl, refl, continues_itself _ _ _ _ _ _ _ _) in
    let mount = f.3 ∙ v.mount in
    let store = c.write_stream.new.store in
    now_held (λ m held. search (rules, held, f, mount))
    (now_stored _ _ s c.in_ok-write_stream.field-0 c.args.words.now
    (λ m held. begins_held store.mount.kind store.mount.slots.now (g.S.Shelf.tells store.shelf.now) (g.S.Shelf.world store.shelf.now).now.seen store.space.now store.lost store.cache.now m held)
    (c.in_ok-write_stream.ensures.stores s (rw (v.space, v.shelf, v.cache, v.lost, v.mount) h)))

pub returns-in_err-write_stream-clause-continues : goal.returns-in_err-write_stream-clause-continues
returns-in_err-write_stream-clause-continues g c =
    let v = c.new-store.ensures in
    let f = c.write_stream.ensures.follows c.new-store.result (refl, refl, refl, refl, continues_itself _ _ _ _ _ _ _ _) in
    let mount = f.3 ∙ v.mount in
    let goes = f.4 in
    search (rules, goes, v, mount)

pub returns-clause-waits : goal.returns-clause-waits
returns-clause-waits g c =
    let v = c.new-store.ensures in
    let f = c.write_stream.ensures.follows c.new-store.result (refl, refl, refl, refl, continues_itself _ _ _ _ _ _ _ _) in
    let still = (c.in_ok-write_stream.ensures.adds c.new-store.result (λ none. (none, λ d u waits. waits)) v.lost).1 in
    λ d u waits. search (rules, still, v, f, waits)
