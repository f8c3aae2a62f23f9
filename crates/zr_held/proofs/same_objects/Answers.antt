use Rattle.zr_held.proofs.Same.{same}
use Rattle.zr_held.proofs.same_objects.Goals as goal

pub returns : goal.returns
returns c = λ s n a b objects swap dir group has. same s n a b objects swap dir group has
