use Rattle.std.proofs.Common.{IfOk, List, ℕ, subst, sym}
use Rattle.zr_base.specs.Readers.{Reads}
use Rattle.zr_script.specs.Grammar.{IsRemove}
use Rattle.zr_script.proofs.Reading.{two_words}
use Rattle.zr_script.proofs.lines.parse_remove.Goals as goal

pub returns-then-eq : goal.returns-then-eq
returns-then-eq c =
    let e = two_words c.args.words.now _ _ _ _ c.in-len2.len_at_least c.in-len2.len_below c.eq.ensures c.if-eq.true c.as_slice.ensures in
    subst (λ (x : List (List ℕ)). IfOk c.parse_estimate.result (Reads (IsRemove x))) (sym e) c.parse_estimate.ensures
