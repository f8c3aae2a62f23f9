use Rattle.std.proofs.Common.{refl}
use Rattle.zr_laws.proofs.Places.{none_longer}
use Rattle.zr_laws.proofs.space.no_place_for_more.Goals as goal

pub returns-clause-none : goal.returns-clause-none
returns-clause-none c = none_longer

pub returns-clause-first : goal.returns-clause-first
returns-clause-first c = refl

pub returns-clause-third : goal.returns-clause-third
returns-clause-third c = refl

pub returns-clause-fourth : goal.returns-clause-fourth
returns-clause-fourth c = refl

pub returns-clause-sixth : goal.returns-clause-sixth
returns-clause-sixth c = refl
