use Rattle.zr_beside.proofs.Beside.{replaced}
use Rattle.zr_beside.proofs.laws.a_tree_is_replaced.Goals as goal

pub returns : goal.returns
returns c = λ s n front back w t bytes h once swaps has. replaced s n front back w t bytes h once swaps has
