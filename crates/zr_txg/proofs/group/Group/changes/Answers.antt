use Rattle.std.proofs.Common.{◌≡◌, ◌∙◌, ◌<◌, ap, sym, subst, length, ℕ, List, Some}
use Rattle.std.specs.Prelude.{option_map}
use Rattle.zr_bptr.specs.declared.Ptr.{Ptr}
use Rattle.zr_bptr.specs.declared.ObjRec.{ObjRec}
use Rattle.zr_txg.specs.Tables.{value_at}
use Rattle.zr_txg.specs.Changes.{Changes, ObjectChange, IsChange, blocks_of}
use Rattle.zr_txg.proofs.Keyed.{value_of, each-at}
use Rattle.zr_txg.proofs.Counts.{Objects, kept_record}
use Rattle.zr_txg.proofs.group.Group.changes.Goals as goal

pub returns-in-Ok-clause-recorded : goal.returns-in-Ok-clause-recorded
returns-in-Ok-clause-recorded c = λ some.
    let os = c.self.inside.objects.items in
    let at = rw c.as_slice.ensures.value at c.in-Ok.ensures.found in
    let value = value_of os c.args.id c.in-Ok.i c.index.result.now at c.index.ensures in
    let blocks = c.blocks-in-Ok.ensures ∙ sym (ap blocks_of value) in
    subst (λ (xs : Objects). (r : ObjRec) × (option_map (λ (x : ObjectChange). x.object) (value_at xs c.args.id) ≡ Some (Some r)))
    (ap (λ (g : Changes). g.objects) c.self.view_is)
    (kept_record (value_at os c.args.id) (λ x is. each-at IsChange c.args.id x os c.self.invariant.each is)
    (subst (λ (b : List (ℕ × Ptr)). 0 < length b) blocks some))
