use Rattle.zr_open.proofs.Lasting.{left_found}
use Rattle.zr_open.proofs.laws.left_is_found.Goals as goal

pub returns : goal.returns
returns c = λ paths disks sizes pool objects p ready left shows serve. left_found paths disks sizes pool objects p ready left shows serve
