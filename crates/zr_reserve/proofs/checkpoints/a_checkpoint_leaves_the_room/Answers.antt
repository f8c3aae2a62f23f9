use Rattle.zr_reserve.proofs.Held.{checkpoint_covered}
use Rattle.zr_reserve.proofs.checkpoints.a_checkpoint_leaves_the_room.Goals as goal

pub returns : goal.returns
returns c = checkpoint_covered
