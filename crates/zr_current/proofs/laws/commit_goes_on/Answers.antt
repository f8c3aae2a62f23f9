use Rattle.zr_current.proofs.Committed.{goes_on}
use Rattle.zr_current.proofs.laws.commit_goes_on.Goals as goal

pub returns : goal.returns
returns c = λ old new reset u last next same. goes_on old new reset u last next same
