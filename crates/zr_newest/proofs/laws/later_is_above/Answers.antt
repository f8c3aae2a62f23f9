use Rattle.zr_newest.proofs.Newest.{above_current, above_newest}
use Rattle.zr_newest.proofs.laws.later_is_above.Goals as goal

pub returns-clause-current : goal.returns-clause-current
returns-clause-current c = λ disks seen u next shown finds later. above_current disks seen u next shown finds later

pub returns-clause-newest : goal.returns-clause-newest
returns-clause-newest c = λ disks u next slots h guid later. above_newest disks u next slots h guid later
