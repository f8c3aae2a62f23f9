use Rattle.std.proofs.Common.{refl, arith}
use Rattle.zr_laws.specs.Examples.{before_copies, after_first, after_second, after_third, after_fourth, after_fifth, after_sixth}
use Rattle.zr_laws.proofs.Places.{placed}
use Rattle.zr_laws.proofs.space.the_places_of_copies.Goals as goal

pub returns-clause-first : goal.returns-clause-first
returns-clause-first c = placed before_copies 4 2 20 (omega arith) (omega arith) (omega arith) (omega arith) refl refl

pub returns-clause-second : goal.returns-clause-second
returns-clause-second c = placed after_first 3 3 30 (omega arith) (omega arith) (omega arith) (omega arith) refl refl

pub returns-clause-third : goal.returns-clause-third
returns-clause-third c = placed after_second 3 3 40 (omega arith) (omega arith) (omega arith) (omega arith) refl refl

pub returns-clause-fourth : goal.returns-clause-fourth
returns-clause-fourth c = placed after_third 2 1 10 (omega arith) (omega arith) (omega arith) (omega arith) refl refl

pub returns-clause-fifth : goal.returns-clause-fifth
returns-clause-fifth c = placed after_fourth 2 2 43 (omega arith) (omega arith) (omega arith) (omega arith) refl refl

pub returns-clause-sixth : goal.returns-clause-sixth
returns-clause-sixth c = placed after_fifth 1 0 0 (omega arith) (omega arith) (omega arith) (omega arith) refl refl

pub returns-clause-seventh : goal.returns-clause-seventh
returns-clause-seventh c = placed after_sixth 1 0 24 (omega arith) (omega arith) (omega arith) (omega arith) refl refl
