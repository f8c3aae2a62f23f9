use Rattle.std.proofs.Common.{◌≡◌, ℕ, ◌+◌, ◌-◌, ◌≤◌}
use Rattle.std.specs.Prelude.{◌||◌, ◌&&◌, not, nat_le, nat_lt}
use Rattle.zr_base.specs.Extents.{has_unit}
use Rattle.zr_indirect.proofs.sets.note_came.Given as goal

abbrev pub invariant-loop-at : goal.invariant-loop-at
invariant-loop-at l = record {
  from : l.fn.e.start ≤ l.at;
  to : l.at ≤ l.end;
  came_room : l.end - l.at ≤ l.came.spare;
  went_room : l.end - l.at ≤ l.went.spare;
  came_spare : l.initial.came.spare + l.fn.e.start ≤ l.came.spare + l.at;
  went_spare : l.initial.went.spare + l.fn.e.start ≤ l.went.spare + l.at;
  came : (u : ℕ) → has_unit l.came.extents u ≡ (has_unit l.initial.came.extents u || ((nat_le l.fn.e.start u && nat_lt u l.at) && not (has_unit l.initial.went.extents u)));
  went : (u : ℕ) → has_unit l.went.extents u ≡ (has_unit l.initial.went.extents u && not (nat_le l.fn.e.start u && nat_lt u l.at));
}

abbrev pub decreases-loop-at : goal.decreases-loop-at
decreases-loop-at l = l.end - l.at
