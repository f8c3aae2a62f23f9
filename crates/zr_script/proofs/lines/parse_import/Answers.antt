use Rattle.std.proofs.Common.{List, ℕ, subst, sym}
use Rattle.zr_base.specs.Readers.{Reads}
use Rattle.zr_script.specs.Grammar.{IsImport}
use Rattle.zr_script.proofs.Reading.{one_word, two_words}
use Rattle.zr_script.proofs.lines.parse_import.Goals as goal

pub returns-then-eq : goal.returns-then-eq
returns-then-eq c = one_word c.args.words.now _ _ _ _ c.in-len1.len_at_least c.in-len1.len_below c.eq.ensures c.if-eq.true c.as_slice.ensures

pub returns-then-eq-2 : goal.returns-then-eq-2
returns-then-eq-2 c =
    let e = two_words c.args.words.now _ _ _ _ c.in-len2.len_at_least c.in-len2.len_below c.eq-in-len2.ensures c.if-eq-2.true c.as_slice-in-len2.ensures in
    subst (λ (x : List (List ℕ)). Reads (IsImport x) c.parse_import_txg.result) (sym e) c.parse_import_txg.ensures
