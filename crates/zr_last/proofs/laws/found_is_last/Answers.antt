use Rattle.zr_last.proofs.Lasting.{found_last}
use Rattle.zr_last.proofs.laws.found_is_last.Goals as goal

pub returns : goal.returns
returns c = λ disks seen u pool shown finds from slots. found_last disks seen u pool shown finds from slots
