use Rattle.zr_change.proofs.Rows.{edited_blocks, same_block}
use Rattle.zr_change.proofs.laws.frame.Goals as goal

pub returns-clause-edited : goal.returns-clause-edited
returns-clause-edited c = λ id r e plan s g n h planned changed. edited_blocks id r e plan s g n h planned changed

pub returns-clause-others : goal.returns-clause-others
returns-clause-others c = λ id r plan s g n h changed once i k o other held. same_block id r plan s g n h changed once i k o other held
