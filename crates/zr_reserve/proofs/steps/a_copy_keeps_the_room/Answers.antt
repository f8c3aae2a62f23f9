use Rattle.zr_reserve.proofs.Stepped.{copy_covered}
use Rattle.zr_reserve.proofs.steps.a_copy_keeps_the_room.Goals as goal

pub returns : goal.returns
returns c = copy_covered
