use Rattle.zr_newest.proofs.Newest.{devices_own, devices_stay}
use Rattle.zr_newest.proofs.laws.same_devices_stay.Goals as goal

pub returns-clause-own : goal.returns-clause-own
returns-clause-own c = λ u next slots mine seen devices own. devices_own u next slots mine seen devices own

pub returns-clause-all : goal.returns-clause-all
returns-clause-all c = λ disks u next slots h guid count rows seen labels. devices_stay disks u next slots h guid count rows seen labels
