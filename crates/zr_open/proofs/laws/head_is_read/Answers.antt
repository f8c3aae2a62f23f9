use Rattle.zr_open.proofs.Left.{head_read}
use Rattle.zr_open.proofs.laws.head_is_read.Goals as goal

pub returns-clause-lawful : goal.returns-clause-lawful
returns-clause-lawful c = λ disks sizes u pool ready on from has. (head_read sizes u pool ready on from disks has).0

pub returns-clause-bytes : goal.returns-clause-bytes
returns-clause-bytes c = λ disks sizes u pool ready on from has. (head_read sizes u pool ready on from disks has).1
