use Rattle.std.proofs.Common.{arith}
use Rattle.zr_script.proofs.Reading.{same_number}
use Rattle.zr_script.proofs.words.parse_guid.Goals as goal

pub returns-then-number-eq0 : goal.returns-then-number-eq0
returns-then-number-eq0 c = λ n h. let same = same_number _ c.in-Some.number n (rw c.in-Some.is at c.parse_number.ensures) h.number in let some = h.some in omega arith
