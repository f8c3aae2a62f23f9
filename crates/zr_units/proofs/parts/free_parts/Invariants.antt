use Rattle.std.proofs.Common.{◌≡◌, ◌+◌, ◌-◌, ◌≤◌, ◌<◌, length, ℕ}
use Rattle.std.specs.Prelude.{◌||◌, ◌&&◌, ◌==◌, not, nat_le, nat_lt, false}
use Rattle.zr_base.specs.Extents.{unit_count, has_unit, IsMaximal}
use Rattle.zr_metaslab.specs.Devices.{free_at, count_at, KeepsDevices}
use Rattle.zr_units.proofs.parts.free_parts.Given as goal

abbrev pub invariant-loop-at : goal.invariant-loop-at
invariant-loop-at l = record {
  from : l.fn.e.start ≤ l.at;
  to : l.at ≤ l.end;
  device : l.dev < length l.slabs;
  born_room : l.end - l.at ≤ l.born.spare;
  deferred_room : l.end - l.at ≤ l.deferred.spare;
  born_spare : l.initial.born.spare + l.fn.e.start ≤ l.born.spare + l.at;
  deferred_spare : l.initial.deferred.spare + l.fn.e.start ≤ l.deferred.spare + l.at;
  free : (d u : ℕ) → free_at l.slabs d u ≡ (free_at l.initial.slabs d u || ((d == l.dev) && ((nat_le l.fn.e.start u && nat_lt u l.at) && has_unit l.initial.born.extents u)));
  deferred : (u : ℕ) → has_unit l.deferred.extents u ≡ (has_unit l.initial.deferred.extents u || ((nat_le l.fn.e.start u && nat_lt u l.at) && not (has_unit l.initial.born.extents u)));
  born : (u : ℕ) → has_unit l.born.extents u ≡ (has_unit l.initial.born.extents u && not (nat_le l.fn.e.start u && nat_lt u l.at));
  count : count_at l.slabs l.dev + unit_count l.deferred.extents + l.fn.e.start ≡ count_at l.initial.slabs l.dev + unit_count l.initial.deferred.extents + l.at;
  others : (d : ℕ) → (d == l.dev) ≡ false → count_at l.slabs d ≡ count_at l.initial.slabs d;
  devices : KeepsDevices l.initial.slabs l.slabs;
  born_maximal : IsMaximal l.born.extents;
  deferred_maximal : IsMaximal l.deferred.extents;
}

abbrev pub decreases-loop-at : goal.decreases-loop-at
decreases-loop-at l = l.end - l.at
