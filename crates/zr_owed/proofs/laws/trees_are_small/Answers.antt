use Rattle.zr_owed.proofs.RoomLaws.{tree_units-lt}
use Rattle.zr_owed.proofs.laws.trees_are_small.Goals as goal

pub returns : goal.returns
returns c = tree_units-lt
