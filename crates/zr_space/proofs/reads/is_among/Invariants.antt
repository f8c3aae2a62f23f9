use Rattle.std.proofs.Common.{◌≡◌, true, ℕ, take}
use Rattle.zr_base.specs.Extents.{has_unit}
use Rattle.zr_space.proofs.reads.is_among.Given as goal

abbrev pub invariant-loop-e : goal.invariant-loop-e
invariant-loop-e l = (u : ℕ) → has_unit (take l.e-index l.extents) u ≡ true → has_unit l.all.extents u ≡ true
