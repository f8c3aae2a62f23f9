use Rattle.std.proofs.Common.{◌≡◌, ◌∙◌, ◌++◌, Option, Vec, Global, List, ℕ, subst, sym}
use Rattle.std.specs.Prelude.{OnOk}
use Rattle.std.specs.Option.{option_map}
use Rattle.zr_base.specs.Readers.{Reads}
use Rattle.zr_bptr.specs.declared.ObjRec.{ObjRec}
use Rattle.zr_bptr.specs.Spelling.{SpellsRecords}
use Rattle.zr_objset.proofs.Spelled.{spelled}
use Rattle.zr_import.proofs.Directory.{leaf_objects}
use Rattle.zr_import.proofs.objects.read_objects.Goals as goal

pub returns-clause-objects : goal.returns-clause-objects
returns-clause-objects g c = λ s holds.
    let b = c.args.b.now in
    let bytes = s.bytes b in
    let rs = c.in-Some.records.items in
    let read = subst (λ (o : Option (Vec (Option ObjRec) Global)). Reads (SpellsRecords c.as_slice.result.now) (option_map (λ v. v.items) o)) c.in-Some.is c.in_ok-records.ensures in
    let is = sym (spelled bytes rs (subst (λ (xs : List ℕ). SpellsRecords xs rs) (c.as_slice.ensures.value ∙ c.in_ok-bytes.ensures.bytes s holds) read)) in
    let objects = leaf_objects s b c.as_slice-2.result.now c.if-b-ne0.false (c.as_slice-2.ensures.value ∙ is) in
    subst (λ (xs : List ObjRec). OnOk c.add_objects.result (c.add_objects.new.objects.items ≡ c.args.objects.now.items ++ xs)) objects c.add_objects.ensures.objects
