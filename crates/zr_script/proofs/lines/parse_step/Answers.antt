use Rattle.zr_script.proofs.Reading.{one_word}
use Rattle.zr_script.proofs.lines.parse_step.Goals as goal

pub returns-then-eq : goal.returns-then-eq
returns-then-eq c = one_word c.args.words.now _ _ _ _ c.in-len1.len_at_least c.in-len1.len_below c.eq.ensures c.if-eq.true c.as_slice.ensures

pub returns-then-eq-2 : goal.returns-then-eq-2
returns-then-eq-2 c = one_word c.args.words.now _ _ _ _ c.in-len1.len_at_least c.in-len1.len_below c.eq-else-eq.ensures c.if-eq-2.true c.as_slice-else-eq.ensures

pub returns-then-eq-3 : goal.returns-then-eq-3
returns-then-eq-3 c = one_word c.args.words.now _ _ _ _ c.in-len1.len_at_least c.in-len1.len_below c.eq-else-eq-2.ensures c.if-eq-3.true c.as_slice-else-eq-2.ensures
