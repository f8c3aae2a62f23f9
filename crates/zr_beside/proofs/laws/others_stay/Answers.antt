use Rattle.zr_beside.proofs.Beside.{others}
use Rattle.zr_beside.proofs.laws.others_stay.Goals as goal

pub returns : goal.returns
returns c = λ s n front gone came back h once swaps stand. others s n front gone came back h swaps once stand
