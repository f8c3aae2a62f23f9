use Rattle.zr_gone.proofs.Spending.{freeable_still, reads_still}
use Rattle.zr_gone.proofs.freeable_behind_the_end.Goals as goal

pub returns-clause-used : goal.returns-clause-used
returns-clause-used c = λ old new d txg at may fin is. freeable_still old new d txg may fin at is

pub returns-clause-bytes : goal.returns-clause-bytes
returns-clause-bytes c = λ slots disks old new d txg at may fin stands is. reads_still old new d txg may fin disks slots stands at is
