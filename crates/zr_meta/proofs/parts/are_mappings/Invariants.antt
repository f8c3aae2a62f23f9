use Rattle.std.proofs.Common.{take}
use Rattle.std.specs.List.{AllByRecursion}
use Rattle.zr_meta.specs.Parts.{HasMapping}
use Rattle.zr_meta.proofs.parts.are_mappings.Given as goal

abbrev pub invariant-loop-w : goal.invariant-loop-w
invariant-loop-w l = AllByRecursion HasMapping (take l.w-index l.words)
