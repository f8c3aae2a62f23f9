use Rattle.zr_reserve.proofs.Stepped.{first_covered}
use Rattle.zr_reserve.proofs.steps.a_new_pool_has_room.Goals as goal

pub returns : goal.returns
returns c = first_covered
