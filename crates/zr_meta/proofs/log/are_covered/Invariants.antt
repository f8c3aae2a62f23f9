use Rattle.std.proofs.Common.{take}
use Rattle.std.specs.List.{AllByRecursion}
use Rattle.zr_base.specs.Extents.{HasAll}
use Rattle.zr_meta.proofs.log.are_covered.Given as goal

abbrev pub invariant-loop-e : goal.invariant-loop-e
invariant-loop-e l = AllByRecursion (HasAll l.set.extents) (take l.e-index l.extents)
