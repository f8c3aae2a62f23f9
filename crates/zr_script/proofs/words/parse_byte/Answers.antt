use Rattle.std.proofs.Common.{arith}
use Rattle.zr_script.proofs.Reading.{same_number}
use Rattle.zr_script.proofs.words.parse_byte.Goals as goal

pub returns-then-number-gt255 : goal.returns-then-number-gt255
returns-then-number-gt255 c = λ n h. let same = same_number _ c.in-Some.number n (rw c.in-Some.is at c.parse_number.ensures) h.number in let small = h.small in omega arith
