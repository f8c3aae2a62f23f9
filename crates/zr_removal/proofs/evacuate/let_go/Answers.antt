use Rattle.std.proofs.Common.{refl}
use Rattle.zr_removal.proofs.Gone.{objects_forgotten}
use Rattle.zr_removal.proofs.Standing.{copies_forgotten}
use Rattle.zr_removal.proofs.GoneTrees.{trees_forgotten}
use Rattle.zr_removal.proofs.evacuate.let_go.Goals as goal

pub returns-clause-objects : goal.returns-clause-objects
returns-clause-objects c = λ disks objects holds.
    objects_forgotten c.args.pool.now _ c.args.dev (record { table = c.forget_slot.ensures; rest = refl }) c.requires.gone disks (Unit {0}) objects holds

pub returns-clause-copies : goal.returns-clause-copies
returns-clause-copies c = λ disks stand.
    copies_forgotten c.args.pool.now _ c.args.dev (record { table = c.forget_slot.ensures; rest = refl }) c.requires.gone disks stand

pub returns-clause-trees : goal.returns-clause-trees
returns-clause-trees c = λ disks trees.
    trees_forgotten c.args.pool.now _ c.args.dev (record { table = c.forget_slot.ensures; rest = refl }) c.requires.gone disks (Unit {0}) trees
