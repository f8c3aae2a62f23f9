use Rattle.std.proofs.Common.{arith}
use Rattle.std.proofs.lemmas.Bool.Decides.{nat_tests}
use Rattle.zr_reckon.proofs.bounds.a_cut_in_the_middle_adds_two_words.Goals as goal

pub returns-clause-long : goal.returns-clause-long
returns-clause-long c = record {
  old_maximal = (omega arith, omega arith, omega arith, tt);
  new_maximal = (omega arith, omega arith, omega arith, (omega arith, omega arith, omega arith, tt));
  members = λ u. grind (arith, nat_tests);
}

pub returns-clause-short : goal.returns-clause-short
returns-clause-short c = record {
  old_maximal = (omega arith, omega arith, omega arith, tt);
  new_maximal = (omega arith, omega arith, omega arith, (omega arith, omega arith, omega arith, tt));
  members = λ u. grind (arith, nat_tests);
}
