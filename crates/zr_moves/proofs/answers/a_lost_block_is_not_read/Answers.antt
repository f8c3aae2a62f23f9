use Rattle.std.proofs.Common.{refl}
use Rattle.zr_moves.proofs.answers.a_lost_block_is_not_read.Goals as goal

pub returns-clause-part : goal.returns-clause-part
returns-clause-part c = λ o lost. rw (lost.1, lost.0) refl

pub returns-clause-whole : goal.returns-clause-whole
returns-clause-whole c = λ o lost. rw (lost.1, lost.0) refl

pub returns-clause-here : goal.returns-clause-here
returns-clause-here c = λ o lost. rw (lost.1, lost.0) refl

pub returns-clause-next : goal.returns-clause-next
returns-clause-next c = λ o lost. rw (lost.1, lost.0) refl
