use Rattle.std.proofs.Common.{refl}
use Rattle.std.specs.Fmt as fmt
use Rattle.zr_laws.proofs.lines.the_lines_of_tables_and_ends.Goals as goal

pub returns-clause-gone : goal.returns-clause-gone
unfolding fmt.digits
returns-clause-gone c = refl

pub returns-clause-bad : goal.returns-clause-bad
unfolding fmt.digits
returns-clause-bad c = refl

pub returns-clause-fault : goal.returns-clause-fault
unfolding fmt.digits
returns-clause-fault c = refl

pub returns-clause-limit : goal.returns-clause-limit
unfolding fmt.digits
returns-clause-limit c = refl
