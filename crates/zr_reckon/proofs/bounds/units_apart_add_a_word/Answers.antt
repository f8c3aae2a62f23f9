use Rattle.std.proofs.Common.{arith}
use Rattle.std.proofs.lemmas.Bool.Decides.{nat_tests}
use Rattle.zr_reckon.proofs.bounds.units_apart_add_a_word.Goals as goal

pub returns-clause-apart : goal.returns-clause-apart
returns-clause-apart c = record {
  old_maximal = (omega arith, omega arith, omega arith, tt);
  new_maximal = (omega arith, omega arith, omega arith, (omega arith, omega arith, omega arith, tt));
  members = λ u. grind (arith, nat_tests);
}
