use Rattle.zr_gone.proofs.Spending.{held_still}
use Rattle.zr_gone.proofs.held_behind_the_end.Goals as goal

pub returns : goal.returns
returns g c = λ shelf slots disks old new d txg cache empty s may fin stands none held. held_still old new d txg may fin slots (g.S.Shelf.tells shelf) disks cache empty s stands none held
