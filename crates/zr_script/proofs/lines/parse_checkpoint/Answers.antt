use Rattle.zr_script.proofs.Reading.{one_word}
use Rattle.zr_script.proofs.lines.parse_checkpoint.Goals as goal

pub returns-then-eq : goal.returns-then-eq
returns-then-eq c = one_word c.args.words.now _ _ _ _ c.in-len1.len_at_least c.in-len1.len_below c.eq.ensures c.if-eq.true c.as_slice.ensures
