use Rattle.std.proofs.Common.{ℕ, ◌<◌}
use Rattle.zr_judge.specs.Parts.{GoesTogether}
use Rattle.zr_rules.specs.Places.{part_of}
use Rattle.zr_judge.proofs.mappings.are_mapped.Given as goal

abbrev pub invariant-loop-part : goal.invariant-loop-part
invariant-loop-part l = (k : ℕ) → k < l.part-index → GoesTogether (part_of l.parts k)
