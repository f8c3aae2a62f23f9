use Rattle.zr_open.proofs.Left.{objects_meant}
use Rattle.zr_open.proofs.laws.held_is_meant.Goals as goal

pub returns : goal.returns
returns c = λ disks pool objects empty held. objects_meant (Unit {0}) disks pool objects empty held
