use Rattle.std.proofs.Common.{length}
use Rattle.zr_view.proofs.runs.+read_runs.Given as goal

abbrev pub decreases-read_runs : goal.decreases-read_runs
decreases-read_runs g l = length l.runs.now
