use Rattle.zr_freed.proofs.Beside.{in_use_beside}
use Rattle.zr_freed.proofs.in_use_beside.Goals as goal

pub returns : goal.returns
returns c = λ own parts meta saved old new list same so to h. in_use_beside own parts meta saved old new same so to list h
