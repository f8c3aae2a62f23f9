use Rattle.std.proofs.Common.{◌≡◌, ◌+◌, ◌-◌, ◌≤◌, ◌<◌, length, ℕ}
use Rattle.std.specs.Prelude.{◌||◌, ◌&&◌, ◌==◌, not, nat_le, nat_lt, false}
use Rattle.zr_base.specs.Extents.{unit_count, has_unit, IsMaximal}
use Rattle.zr_metaslab.specs.Devices.{free_at, count_at, KeepsDevices}
use Rattle.zr_units.proofs.parts.keep_parts.Given as goal

abbrev pub invariant-loop-at : goal.invariant-loop-at
invariant-loop-at l = record {
  from : l.fn.e.start ≤ l.at;
  to : l.at ≤ l.end;
  device : l.dev < length l.slabs;
  held_room : l.end - l.at ≤ l.held.spare;
  born_room : l.end - l.at ≤ l.born.spare;
  kept_room : l.end - l.at ≤ l.kept.spare;
  came_room : l.end - l.at ≤ l.came.spare;
  held_spare : l.initial.held.spare + l.fn.e.start ≤ l.held.spare + l.at;
  born_spare : l.initial.born.spare + l.fn.e.start ≤ l.born.spare + l.at;
  kept_spare : l.initial.kept.spare + l.fn.e.start ≤ l.kept.spare + l.at;
  came_spare : l.initial.came.spare + l.fn.e.start ≤ l.came.spare + l.at;
  free : (d u : ℕ) → free_at l.slabs d u ≡ (free_at l.initial.slabs d u || ((d == l.dev) && ((nat_le l.fn.e.start u && nat_lt u l.at) && has_unit l.initial.born.extents u)));
  held : (u : ℕ) → has_unit l.held.extents u ≡ (has_unit l.initial.held.extents u && not ((nat_le l.fn.e.start u && nat_lt u l.at) && has_unit l.initial.born.extents u));
  born : (u : ℕ) → has_unit l.born.extents u ≡ (has_unit l.initial.born.extents u && not (nat_le l.fn.e.start u && nat_lt u l.at));
  kept : (u : ℕ) → has_unit l.kept.extents u ≡ (has_unit l.initial.kept.extents u || ((nat_le l.fn.e.start u && nat_lt u l.at) && not (has_unit l.initial.born.extents u)));
  came : (u : ℕ) → has_unit l.came.extents u ≡ (has_unit l.initial.came.extents u || ((nat_le l.fn.e.start u && nat_lt u l.at) && not (has_unit l.initial.born.extents u)));
  count : count_at l.slabs l.dev + unit_count l.held.extents ≡ count_at l.initial.slabs l.dev + unit_count l.initial.held.extents;
  others : (d : ℕ) → (d == l.dev) ≡ false → count_at l.slabs d ≡ count_at l.initial.slabs d;
  devices : KeepsDevices l.initial.slabs l.slabs;
  held_maximal : IsMaximal l.held.extents;
  born_maximal : IsMaximal l.born.extents;
  kept_maximal : IsMaximal l.kept.extents;
  came_maximal : IsMaximal l.came.extents;
}

abbrev pub decreases-loop-at : goal.decreases-loop-at
decreases-loop-at l = l.end - l.at
