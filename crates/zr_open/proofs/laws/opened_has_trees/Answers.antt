use Rattle.std.proofs.Common.{refl}
use Rattle.zr_open.proofs.OwnTrees.{own_trees}
use Rattle.zr_open.proofs.laws.opened_has_trees.Goals as goal

pub returns : goal.returns
returns c = λ disks sizes u pool root saved lawful ready fresh head parts stands. own_trees (Unit {0}) tt disks disks sizes u pool root saved lawful ready fresh head parts stands (λ a. refl)
