use Rattle.zr_beside.proofs.Beside.{stay}
use Rattle.zr_beside.proofs.laws.they_stay.Goals as goal

pub returns : goal.returns
returns c = λ s n all h same bytes. stay s n all h bytes same
