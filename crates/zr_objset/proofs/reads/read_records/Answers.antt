use Rattle.std.proofs.Common.{◌∙◌, Option, Vec, Global, List, ℕ, subst, sym}
use Rattle.std.specs.Option.{option_map}
use Rattle.zr_base.specs.Readers.{Reads}
use Rattle.zr_bptr.specs.declared.ObjRec.{ObjRec}
use Rattle.zr_bptr.specs.Spelling.{SpellsRecords}
use Rattle.zr_objset.proofs.Spelled.{spelled}
use Rattle.zr_objset.proofs.reads.read_records.Goals as goal

pub returns-clause-means : goal.returns-clause-means
returns-clause-means g c = λ s holds.
    let bytes = s.bytes c.args.b.now in
    let rs = c.in-Some.records.items in
    let read = subst (λ (o : Option (Vec (Option ObjRec) Global)). Reads (SpellsRecords c.as_slice.result.now) (option_map (λ v. v.items) o)) c.in-Some.is c.in_ok-decode_records.ensures in
    sym (spelled bytes rs (subst (λ (xs : List ℕ). SpellsRecords xs rs) (c.as_slice.ensures.value ∙ c.in_ok-bytes.ensures.bytes s holds) read))
