use Rattle.zr_session.proofs.Moments.{sending}
use Rattle.zr_session.proofs.Sending.{sends_nothing}
use Rattle.zr_session.proofs.command.send.Goals as goal

pub returns-in-Err-NoMemory-clause-partly : goal.returns-in-Err-NoMemory-clause-partly
returns-in-Err-NoMemory-clause-partly g c = λ t. sends_nothing _ _ (let h = rw c.in-Err-NoMemory.field-0-is at (c.in-Err-NoMemory.ensures.world t) in h.now)

pub returns-in-Ok-clause-moments : goal.returns-in-Ok-clause-moments
returns-in-Ok-clause-moments g c = λ t. sending _ _ _ c.give.result (c.give.ensures.world t)

pub returns-in-Err-Failed-clause-moments : goal.returns-in-Err-Failed-clause-moments
returns-in-Err-Failed-clause-moments g c = λ t. sending _ _ _ c.give.result (c.give.ensures.world t)

pub returns-in-Err-NoMemory-clause-moments : goal.returns-in-Err-NoMemory-clause-moments
returns-in-Err-NoMemory-clause-moments g c = λ t. sending _ _ _ c.give.result (c.give.ensures.world t)
