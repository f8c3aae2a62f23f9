use Rattle.std.proofs.Common.{refl}
use Rattle.std.specs.Fmt as fmt
use Rattle.zr_laws.proofs.lines.the_texts_of_refusals.Goals as goal

pub returns-clause-range : goal.returns-clause-range
unfolding fmt.digits
returns-clause-range c = refl

pub returns-clause-room : goal.returns-clause-room
unfolding fmt.digits
returns-clause-room c = refl

pub returns-clause-in_use : goal.returns-clause-in_use
unfolding fmt.digits
returns-clause-in_use c = refl

pub returns-clause-size : goal.returns-clause-size
unfolding fmt.digits
returns-clause-size c = refl

pub returns-clause-missing : goal.returns-clause-missing
unfolding fmt.digits
returns-clause-missing c = refl

pub returns-clause-none : goal.returns-clause-none
unfolding fmt.digits
returns-clause-none c = refl

pub returns-clause-rule : goal.returns-clause-rule
unfolding fmt.digits
returns-clause-rule c = refl

pub returns-clause-group : goal.returns-clause-group
unfolding fmt.digits
returns-clause-group c = refl

pub returns-clause-version : goal.returns-clause-version
unfolding fmt.digits
returns-clause-version c = refl
