use Rattle.zr_recorded.proofs.Whole.{commit_whole, line_whole}
use Rattle.zr_recorded.proofs.laws.a_whole_pool_was_whole.Goals as goal

pub returns-clause-line : goal.returns-clause-line
returns-clause-line c = λ sizes old new ready keeps table whole. line_whole sizes old new ready keeps table whole

pub returns-clause-commit : goal.returns-clause-commit
returns-clause-commit c = λ sizes reset old new objects before now ready ends whole. commit_whole sizes reset old new objects before now ready ends whole
