use Rattle.std.proofs.Common.{◌≡◌, refl}
use Rattle.zr_shelf.proofs.Runs.{weaker}
use Rattle.zr_moves.proofs.Behind.{at_end}
use Rattle.zr_moves.proofs.program.attaching_answers_nothing.Goals as goal

pub returns-clause-left : goal.returns-clause-left
returns-clause-left c = λ old new since. at_end (λ s. s.left ≡ old.now.left) old new (weaker _ (λ s. s.left ≡ old.now.left) old new (λ s is. is.1) since) refl

pub returns-clause-sent : goal.returns-clause-sent
returns-clause-sent c = λ old new since. at_end (λ s. s.sent ≡ old.now.sent) old new (weaker _ (λ s. s.sent ≡ old.now.sent) old new (λ s is. is.0) since) refl

pub returns-clause-early : goal.returns-clause-early
returns-clause-early c = λ old new since. returns-clause-sent c old new since
