use Rattle.zr_shelf.specs.Memory.{NoneHasPath}
use Rattle.zr_shelf.proofs.memory.find.Given as goal

abbrev pub invariant-loop-i : goal.invariant-loop-i
invariant-loop-i l = NoneHasPath l.folder l.path l.i
