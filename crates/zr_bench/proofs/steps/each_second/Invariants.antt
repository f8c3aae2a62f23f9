use Rattle.std.proofs.Common.{◌≡◌, ℕ, ◌*◌, ◌≤◌, false}
use Rattle.zr_base.specs.Extents.{has_unit}
use Rattle.zr_bench.proofs.steps.each_second.Given as goal

abbrev pub invariant-loop-k : goal.invariant-loop-k
invariant-loop-k l = record { apart : (u : ℕ) → 2 * l.k ≤ u → has_unit l.units.extents u ≡ false }
