use Rattle.zr_stops.proofs.Images.{group_leaves}
use Rattle.zr_stops.proofs.laws.a_group_leaves_the_last_root.Goals as goal

pub returns : goal.returns
returns c = λ sizes u pool objects before now was wrote. group_leaves sizes u pool objects before now was wrote
