use Rattle.zr_beside.proofs.Beside.{comes}
use Rattle.zr_beside.proofs.laws.a_tree_comes.Goals as goal

pub returns : goal.returns
returns c = λ s n front back t bytes h once stores. comes s n front back t bytes h once stores.came stores.stands
