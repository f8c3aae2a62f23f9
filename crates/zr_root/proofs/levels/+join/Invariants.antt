use Rattle.std.proofs.Common.{length}
use Rattle.zr_root.proofs.levels.+join.Given as goal

abbrev pub decreases-join : goal.decreases-join
decreases-join g l = length l.bs.now
