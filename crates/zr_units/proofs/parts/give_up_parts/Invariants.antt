use Rattle.std.proofs.Common.{◌≡◌, ◌+◌, ◌≤◌, ◌<◌, length, ℕ}
use Rattle.std.specs.Prelude.{◌||◌, ◌&&◌, ◌==◌, not, true, false}
use Rattle.zr_base.specs.Extents.{unit_count, has_unit, IsMaximal}
use Rattle.zr_metaslab.specs.Devices.{free_at, count_at, units_at, KeepsDevices}
use Rattle.zr_units.specs.Apart.{AreApart, AreSetsApart, IsWithin}
use Rattle.zr_units.proofs.parts.give_up_parts.Given as goal

abbrev pub invariant-loop-copies : goal.invariant-loop-copies
invariant-loop-copies l = record {
  device : l.dev < length l.slabs;
  within : IsWithin l.copies.extents (units_at l.slabs l.dev);
  among : (u : ℕ) → has_unit l.copies.extents u ≡ true → has_unit l.initial.copies.extents u ≡ true;
  there : (u : ℕ) → has_unit l.copies.extents u ≡ true → has_unit l.held.extents u ≡ true;
  held_room : unit_count l.copies.extents ≤ l.held.spare;
  born_room : unit_count l.copies.extents ≤ l.born.spare;
  deferred_room : unit_count l.copies.extents ≤ l.deferred.spare;
  apart : AreSetsApart l.copies.extents l.deferred.extents;
  not_free : AreApart l.copies.extents (free_at l.slabs l.dev);
  held : (u : ℕ) → has_unit l.held.extents u ≡ (has_unit l.initial.held.extents u && not (has_unit l.initial.copies.extents u && not (has_unit l.copies.extents u)));
  born : (u : ℕ) → has_unit l.born.extents u ≡ (has_unit l.initial.born.extents u && not (has_unit l.initial.copies.extents u && not (has_unit l.copies.extents u)));
  deferred : (u : ℕ) → has_unit l.deferred.extents u ≡ (has_unit l.initial.deferred.extents u || ((has_unit l.initial.copies.extents u && not (has_unit l.copies.extents u)) && not (has_unit l.initial.born.extents u)));
  free : (d u : ℕ) → free_at l.slabs d u ≡ (free_at l.initial.slabs d u || ((d == l.dev) && ((has_unit l.initial.copies.extents u && not (has_unit l.copies.extents u)) && has_unit l.initial.born.extents u)));
  count : unit_count l.held.extents + unit_count l.initial.copies.extents ≡ unit_count l.initial.held.extents + unit_count l.copies.extents;
  given : count_at l.slabs l.dev + unit_count l.deferred.extents + unit_count l.copies.extents ≡ count_at l.initial.slabs l.dev + unit_count l.initial.deferred.extents + unit_count l.initial.copies.extents;
  others : (d : ℕ) → (d == l.dev) ≡ false → count_at l.slabs d ≡ count_at l.initial.slabs d;
  devices : KeepsDevices l.initial.slabs l.slabs;
  held_maximal : IsMaximal l.held.extents;
  born_maximal : IsMaximal l.born.extents;
  deferred_maximal : IsMaximal l.deferred.extents;
}

abbrev pub decreases-loop-copies : goal.decreases-loop-copies
decreases-loop-copies l = unit_count l.copies.extents
