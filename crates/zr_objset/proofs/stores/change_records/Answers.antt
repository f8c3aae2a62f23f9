use Rattle.std.proofs.Common.{◌≡◌, ◌%◌, ◌<◌, ◌∙◌, ◌+◌, ◌++◌, ◌∷◌, [], ℕ, suc, List, length, take, get_or, take-suc, sym, ap, arith, rules, Option, None}
use Rattle.std.specs.Prelude.{IfSome}
use Rattle.zr_bptr.specs.declared.ObjRec.{ObjRec}
use Rattle.zr_bptr.specs.Spelling.{IsObject}
use Rattle.zr_objset.specs.Changes.{changed}
use Rattle.zr_objset.proofs.Changing.{record_set, changed_append}
use Rattle.zr_objset.proofs.Runs.{all_set}
use Rattle.zr_objset.proofs.stores.change_records.Goals as goal

pub loop-change-preserved : goal.loop-change-preserved
loop-change-preserved c =
    let run = c.args.run.now in
    let i = c.loop-change.change-index in
    let change = get_or run i (0, None) in
    let old = c.loop-change.records.items in
    let lt : i < length run = omega arith in
    let inv = c.loop-change.invariant in
    record {
      count = search rules;
      lawful = all_set (λ (r : Option ObjRec). IfSome r IsObject) old (change.0 % 16) change.1 inv.lawful (c.requires.objects i (0, None) lt);
      so_far = λ id here.
          let first = get_or c.args.records.now.items (id % 16) None in
          let up : i + 1 ≡ suc i = omega arith in
          let parts : take (i + 1) run ≡ take i run ++ change ∷ [] = ap (λ (n : ℕ). take n run) up ∙ take-suc run i (0, None) lt in
          record_set c.args.place id change.0 old change.1 inv.count (c.requires.here i (0, None) lt) here
          ∙ ap (changed (change ∷ []) id) (inv.so_far id here)
          ∙ sym (changed_append (take i run) (change ∷ []) id first)
          ∙ ap (λ (xs : List (ℕ × Option ObjRec)). changed xs id first) (sym parts);
    }
