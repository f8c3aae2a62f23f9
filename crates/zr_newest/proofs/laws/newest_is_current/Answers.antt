use Rattle.zr_newest.proofs.Newest.{devices_seen, found_newest, only_newest}
use Rattle.zr_newest.proofs.laws.newest_is_current.Goals as goal

pub returns-clause-alone : goal.returns-clause-alone
returns-clause-alone c = λ disks u v slots seen h shown finds. only_newest disks u slots seen h shown v finds

pub returns-clause-current : goal.returns-clause-current
returns-clause-current c = λ disks u v slots seen other h shown finds also. found_newest disks u slots seen h shown v other finds also

pub returns-clause-devices : goal.returns-clause-devices
returns-clause-devices c = λ disks u slots seen h shown. devices_seen disks u slots seen h shown
