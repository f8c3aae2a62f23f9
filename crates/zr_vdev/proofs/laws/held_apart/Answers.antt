use Rattle.zr_vdev.proofs.Moves.{units_once}
use Rattle.zr_vdev.proofs.laws.held_apart.Goals as goal

pub returns : goal.returns
returns g c = λ shelf kind slots disks space lost cache s held d u. units_once kind space lost s.pointers held.stored held.once d u
