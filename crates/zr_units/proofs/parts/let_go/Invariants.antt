use Rattle.std.proofs.Common.{◌≡◌, ◌+◌, ◌<◌, length, ℕ}
use Rattle.std.specs.Prelude.{◌||◌, ◌&&◌, ◌==◌, if◌then◌else◌}
use Rattle.zr_base.specs.Extents.{unit_count, has_unit}
use Rattle.zr_metaslab.specs.Devices.{free_at, count_at, units_at, KeepsDevices}
use Rattle.zr_units.specs.Apart.{AreApart, IsWithin}
use Rattle.zr_units.proofs.parts.let_go.Given as goal

abbrev pub invariant-loop-set : goal.invariant-loop-set
invariant-loop-set l = record {
  device : l.dev < length l.slabs;
  within : IsWithin l.set.extents (units_at l.slabs l.dev);
  apart : AreApart l.set.extents (free_at l.slabs l.dev);
  free : (d u : ℕ) → (free_at l.slabs d u || ((d == l.dev) && has_unit l.set.extents u)) ≡ (free_at l.initial.slabs d u || ((d == l.dev) && has_unit l.initial.set.extents u));
  count : (d : ℕ) → count_at l.slabs d + (if d == l.dev then unit_count l.set.extents else 0) ≡ count_at l.initial.slabs d + (if d == l.dev then unit_count l.initial.set.extents else 0);
  devices : KeepsDevices l.initial.slabs l.slabs;
}

abbrev pub decreases-loop-set : goal.decreases-loop-set
decreases-loop-set l = unit_count l.set.extents
