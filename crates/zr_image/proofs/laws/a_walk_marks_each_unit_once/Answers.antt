use Rattle.std.proofs.Common.{◌≤◌, arith}
use Rattle.zr_image.proofs.laws.a_walk_marks_each_unit_once.Goals as goal

pub returns-clause-again : goal.returns-clause-again
returns-clause-again c = λ may. let twice : 2 ≤ 1 = may.apart 0 5 in absurd (omega arith)
