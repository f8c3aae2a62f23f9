use Rattle.zr_found.proofs.Joined.{holds_found}
use Rattle.zr_found.proofs.objects_found.Goals as goal

pub returns : goal.returns
returns c = λ image s a none place reached. holds_found image s a none place reached
