use Rattle.zr_open.proofs.Meant.{meant}
use Rattle.zr_open.proofs.laws.meant_is_shown.Goals as goal

pub returns : goal.returns
returns c = λ paths disks p state. meant paths disks p state
