use Rattle.zr_open.proofs.Left.{left_is_shown}
use Rattle.zr_open.proofs.laws.left_is_shown.Goals as goal

pub returns : goal.returns
returns c = λ paths disks sizes u pool objects ready on left held. left_is_shown (Unit {0}) paths disks sizes u pool objects ready on left held
