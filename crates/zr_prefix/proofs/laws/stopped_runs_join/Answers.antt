use Rattle.zr_prefix.proofs.Joining.{all_join}
use Rattle.zr_prefix.proofs.laws.stopped_runs_join.Goals as goal

pub returns : goal.returns
returns c = λ first more follow. all_join first more follow
