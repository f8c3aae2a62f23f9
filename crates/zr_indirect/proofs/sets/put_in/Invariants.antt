use Rattle.std.proofs.Common.{◌≡◌, ℕ, ◌≤◌, length}
use Rattle.std.specs.Prelude.{◌||◌}
use Rattle.zr_base.specs.Extents.{has_unit}
use Rattle.zr_units.specs.Apart.{AreSetsApart}
use Rattle.zr_indirect.proofs.sets.put_in.Given as goal

abbrev pub invariant-loop-part : goal.invariant-loop-part
invariant-loop-part l = record {
  apart : AreSetsApart l.part.extents l.set.extents;
  room : length l.part.extents ≤ l.set.spare;
  units : (u : ℕ) → (has_unit l.set.extents u || has_unit l.part.extents u) ≡ (has_unit l.initial.set.extents u || has_unit l.initial.part.extents u);
}

abbrev pub decreases-loop-part : goal.decreases-loop-part
decreases-loop-part l = length l.part.extents
