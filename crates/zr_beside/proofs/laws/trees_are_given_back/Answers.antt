use Rattle.zr_beside.proofs.Beside.{given_back}
use Rattle.zr_beside.proofs.laws.trees_are_given_back.Goals as goal

pub returns : goal.returns
returns c = λ s n front gone back h once swaps. given_back s n front gone back h once swaps
