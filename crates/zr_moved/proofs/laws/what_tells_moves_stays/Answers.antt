use Rattle.zr_moved.proofs.Staying.{moves_stay}
use Rattle.zr_moved.proofs.laws.what_tells_moves_stays.Goals as goal

pub returns : goal.returns
returns c = λ disks image pool root len same moves. moves_stay disks image pool root len same moves
