use Rattle.zr_reserve.proofs.Stepped.{device_covered}
use Rattle.zr_reserve.proofs.steps.a_device_more_keeps_the_room.Goals as goal

pub returns : goal.returns
returns c = device_covered
