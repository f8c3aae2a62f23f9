use Rattle.std.proofs.Common.{◌≡◌, ◌∙◌, ◌/◌, refl, rules, subst, sym}
use Rattle.std.proofs.lemmas.Result.{err_from_is_err_and}
use Rattle.zr_base.specs.declared.refusal.Refusal.TheVariants.{Damaged}
use Rattle.zr_objset.specs.Errors.{IsNoLeaf, TellsOfLeaves}
use Rattle.zr_sync.specs.declared.fault.Fault.TheVariants.{No}
use Rattle.zr_tree.specs.Trees.{own, tree_at, tree_reach}
use Rattle.zr_vdev.proofs.Follows.{continues_itself}
use Rattle.zr_vdev.proofs.Moves.{begins_held}
use Rattle.zr_sync.proofs.Objects.{now_held}
use Rattle.zr_lines.proofs.Damaged.{of_directory}
use Rattle.zr_lines.proofs.record.read_record.Goals as goal

pub returns-in_err-record_of-clause-held : goal.returns-in_err-record_of-clause-held
returns-in_err-record_of-clause-held g c = λ s h.
    let v = c.new-store.ensures in
    let f = c.record_of.ensures.follows c.new-store.result (refl, refl, refl, refl, continues_itself _ _ _ _ _ _ _ _) in
    let mount = f.3 ∙ v.mount in
    let store = c.record_of.new.store in
    now_held (λ n held. search (rules, held, f, mount))
    (begins_held store.mount.kind store.mount.slots.now (g.S.Shelf.tells store.shelf.now) (g.S.Shelf.world store.shelf.now).now.seen store.space.now store.lost store.cache.now s
    (c.record_of.ensures.same s (rw (v.space, v.shelf, v.cache, v.lost, v.mount) h)))

pub returns-clause-held : goal.returns-clause-held
returns-clause-held g c = λ s h.
    let v = c.new-store.ensures in
    let f = c.record_of.ensures.follows c.new-store.result (refl, refl, refl, refl, continues_itself _ _ _ _ _ _ _ _) in
    let mount = f.3 ∙ v.mount in
    let store = c.record_of.new.store in
    now_held (λ n held. search (rules, held, f, mount))
    (begins_held store.mount.kind store.mount.slots.now (g.S.Shelf.tells store.shelf.now) (g.S.Shelf.world store.shelf.now).now.seen store.space.now store.lost store.cache.now s
    (c.record_of.ensures.same s (rw (v.space, v.shelf, v.cache, v.lost, v.mount) h)))

pub returns-in_err-record_of-clause-continues : goal.returns-in_err-record_of-clause-continues
returns-in_err-record_of-clause-continues g c =
    let v = c.new-store.ensures in
    let f = c.record_of.ensures.follows c.new-store.result (refl, refl, refl, refl, continues_itself _ _ _ _ _ _ _ _) in
    let mount = f.3 ∙ v.mount in
    let goes = f.4 in
    search (rules, goes, v, mount)

pub returns-clause-continues : goal.returns-clause-continues
returns-clause-continues g c =
    let v = c.new-store.ensures in
    let f = c.record_of.ensures.follows c.new-store.result (refl, refl, refl, refl, continues_itself _ _ _ _ _ _ _ _) in
    let mount = f.3 ∙ v.mount in
    let goes = f.4 in
    search (rules, goes, v, mount)

pub returns-in_err-record_of-clause-damaged : goal.returns-in_err-record_of-clause-damaged
returns-in_err-record_of-clause-damaged g c = λ s h at expected found is.
    let v = c.new-store.ensures in
    let res = c.from_residual in
    let p = err_from_is_err_and res.result res.ensures.1 in
    let told : p.0 ≡ No (Damaged at expected found) = let e = sym p.1 ∙ is in cc in
    let dir = c.args.dir.now in
    of_directory s dir c.args.id at expected found c.in_err-record_of.field-0.0 p.0
    (subst (λ result. TellsOfLeaves s (tree_reach s dir) (own (tree_at s dir (c.args.id / 16))) (IsNoLeaf s) result) c.in_err-record_of.was (c.record_of.ensures.errors s (rw (v.space, v.shelf, v.cache, v.lost, v.mount) h))) p.2 told
