use Rattle.std.proofs.Common.{◌∙◌, refl, rules}
use Rattle.zr_vdev.proofs.Follows.{continues_itself}
use Rattle.zr_vdev.proofs.Moves.{begins_held}
use Rattle.zr_sync.proofs.Objects.{now_held}
use Rattle.zr_lines.proofs.drops.read_blocks.Goals as goal

pub returns-clause-held : goal.returns-clause-held
returns-clause-held g c = λ s h.
    let v = c.new-store.ensures in
    let call = c.blocks_present in
    let f = call.ensures.follows c.new-store.result (refl, refl, refl, refl, continues_itself _ _ _ _ _ _ _ _) in
    let mount = f.3 ∙ v.mount in
    let store = call.new.store in
    now_held (λ n held. search (rules, held, f, mount))
    (begins_held store.mount.kind store.mount.slots.now (g.S.Shelf.tells store.shelf.now) (g.S.Shelf.world store.shelf.now).now.seen store.space.now store.lost store.cache.now s
    (call.ensures.same s (rw (v.space, v.shelf, v.cache, v.lost, v.mount) h)))

pub returns-clause-continues : goal.returns-clause-continues
returns-clause-continues g c =
    let v = c.new-store.ensures in
    let f = c.blocks_present.ensures.follows c.new-store.result (refl, refl, refl, refl, continues_itself _ _ _ _ _ _ _ _) in
    let mount = f.3 ∙ v.mount in
    let goes = f.4 in
    search (rules, goes, v, mount)

pub returns-clause-damaged : goal.returns-clause-damaged
returns-clause-damaged g c = λ s h at expected found is.
    let v = c.new-store.ensures in
    c.blocks_present.ensures.damaged s (rw (v.space, v.shelf, v.cache, v.lost, v.mount) h) at expected found is
