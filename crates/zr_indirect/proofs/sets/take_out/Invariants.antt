use Rattle.std.proofs.Common.{◌≡◌, ℕ, ◌+◌, ◌≤◌, length}
use Rattle.std.specs.Prelude.{◌&&◌, not}
use Rattle.zr_base.specs.Extents.{has_unit}
use Rattle.zr_indirect.specs.Mapped.{IsPart}
use Rattle.zr_indirect.proofs.sets.take_out.Given as goal

abbrev pub invariant-loop-part : goal.invariant-loop-part
invariant-loop-part l = record {
  there : IsPart l.part.extents l.set.extents;
  room : length l.part.extents ≤ l.set.spare;
  units : (u : ℕ) → (has_unit l.set.extents u && not (has_unit l.part.extents u)) ≡ (has_unit l.initial.set.extents u && not (has_unit l.initial.part.extents u));
  growth : length l.set.extents + length l.part.extents ≤ length l.initial.set.extents + length l.initial.part.extents;
}

abbrev pub decreases-loop-part : goal.decreases-loop-part
decreases-loop-part l = length l.part.extents
