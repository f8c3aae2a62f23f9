use Rattle.std.proofs.Common.{◌≡◌, ◌∙◌, ℕ, List, Option, None, sym, ap, subst, rules}
use Rattle.std.specs.Prelude.{All, slice_index_or}
use Rattle.zr_bptr.specs.declared.ObjRec.{ObjRec}
use Rattle.zr_objset.specs.Records.{records_in}
use Rattle.zr_objset.proofs.Spelled.{spelled}
use Rattle.zr_objset.proofs.stores.put_leaf.Goals as goal

pub returns-clause-puts : goal.returns-clause-puts
returns-clause-puts g c = λ s holds.
    let now = c.in_ok-b.ensures.ok s holds in
    let records = c.args.records.now in
    let read : records_in (now.stored.bytes c.in_ok-b.b) ≡ records = ap (λ (xs : List ℕ). records_in xs) (now.is.given ∙ c.as_slice.ensures.value) ∙ spelled c.in_ok-bytes.bytes.items records c.in_ok-bytes.ensures.spelling in
    let some : ¬ All (λ (r : Option ObjRec). r ≡ None) records = λ all. (let no = c.if-are_none.ensures.1 all in search rules) in
    record {
      stored = now.stored;
      held = now.held;
      is = record {
        means = λ k. ap (λ (rs : List (Option ObjRec)). slice_index_or rs k None) read;
        needed = subst (λ (rs : List (Option ObjRec)). ¬ All (λ (r : Option ObjRec). r ≡ None) rs) (sym read) some;
        swaps = now.is.swaps;
      };
    }
