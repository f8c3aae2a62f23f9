-- A device's units by use, and the counts from which the room is computed.
use Rattle.std.specs.Prelude.{ℕ, ◌+◌, ◌-◌, ◌*◌, ◌==◌, Bool, false, not, nat_le, List, length, map, max, if◌then◌else◌, sum_by, count_by}
use Rattle.std.specs.List.{filter, range_with_len}
use Rattle.zr_base.specs.declared.space.Extent.{Extent}
use Rattle.zr_base.specs.declared.space.Dva.{Dva}
use Rattle.zr_base.specs.declared.space.LateRun.{LateRun}
use Rattle.zr_base.specs.declared.space.DevPart.{DevPart}
use Rattle.zr_base.specs.declared.space.DevState.{DevState}
use Rattle.zr_base.specs.declared.space.DevState.TheVariants.{On, Leaving, Gone}
use Rattle.zr_base.specs.declared.space.Columns.{Columns}
use Rattle.zr_base.specs.declared.space.Sizes.{Sizes}
use Rattle.zr_rules.specs.Places.{count_below, is_on, is_leaving, is_gone, part_of, units_of_dev, state_of_dev}
use Rattle.zr_rules.specs.Placement as placement
use Rattle.zr_rules.specs.Owed.{set_words}
use Rattle.zr_rules.specs.Roles.{Role, is_allocated_role, is_kept_role, is_deferred_role, is_free_role}
use Rattle.zr_rules.specs.Space.{Space, role_at, opened_of, frontier}

-- how many units of the device have a role of this kind
abbrev pub role_count : Space → (Role → Bool) → ℕ → ℕ
role_count s kind d = count_below (units_of_dev s.parts.devs d) (λ u. kind (role_at s d u))

-- the columns of a device, all 0 once it is gone
abbrev pub columns : Space → ℕ → Columns
columns s d =
    record {
      allocated = role_count s is_allocated_role d;
      checkpointed = role_count s is_kept_role d;
      deferred = role_count s is_deferred_role d;
      free = role_count s is_free_role d;
    }

-- the free units, as an allocation sees them
abbrev pub free_of : Space → placement.Free
free_of s =
    record { devs = length s.parts.devs; serves = λ d. is_on (state_of_dev s.parts.devs d); count = λ d. (columns s d).free; is_free = λ d u. is_free_role (role_at s d u) }

-- the devices in service
abbrev pub on_devices : Space → List ℕ
on_devices s = filter (λ d. is_on (state_of_dev s.parts.devs d)) (range_with_len 0 (length s.parts.devs))

-- the free units of the devices in service
abbrev pub free_units : Space → ℕ
free_units s = sum_by (λ d. (columns s d).free) (on_devices s)

-- all units of the devices in service
abbrev pub on_units : Space → ℕ
on_units s = sum_by (units_of_dev s.parts.devs) (on_devices s)

-- the units of an extent from one on
abbrev pub units_from : ℕ → Extent → ℕ
units_from u e = if nat_le u e.start then e.len else e.start + e.len - u

-- what is to be copied yet
abbrev pub uncopied_units : Space → ℕ
uncopied_units s = sum_by (λ (d : ℕ). uncopied_of s d (part_of s.parts.devs d)) (range_with_len 0 (length s.parts.devs))
  where
    uncopied_of : Space → ℕ → DevPart → ℕ
    uncopied_of s d p = if is_leaving p.row.state then sum_by (units_from (frontier s d)) p.held else 0

-- the extents of blocks of a late set
abbrev pub late_blocks : List LateRun → List Extent
late_blocks runs = map (λ (r : LateRun). r.at) (filter (λ (r : LateRun). not r.meta) runs)

abbrev pub late_meta_units : List LateRun → ℕ
late_meta_units runs = sum_by (λ (r : LateRun). if r.meta then r.at.len else 0) runs

-- The words of a device's streams if each were written anew, those of a kept set three times, four more for each entry. Of the late sets and of what the open
-- group has freed, which will be late, the words of blocks count.
abbrev pub device_words : Space → ℕ → ℕ
device_words s d =
    let p = part_of s.parts.devs d in
    set_words s.parts.version p.held + 3 * set_words s.parts.version p.kept + 8 * length p.entries + set_words s.parts.version p.fresh
    + set_words s.parts.version (opened_of s d).deferred + set_words s.parts.version (late_blocks p.late1) + set_words s.parts.version (late_blocks p.late2)

abbrev pub device_streams : DevState → ℕ
device_streams On = 4
device_streams Leaving = 7
device_streams Gone = 3

-- the units of the addresses on a device
abbrev pub units_on : List Dva → ℕ → ℕ
units_on list d = sum_by (λ a. if a.dev == d then a.len else 0) list

-- the metadata units of either late set
abbrev pub late1_meta : List DevPart → ℕ
late1_meta parts = sum_by (λ p. late_meta_units p.late1) parts

abbrev pub late2_meta : List DevPart → ℕ
late2_meta parts = sum_by (λ p. late_meta_units p.late2) parts

abbrev pub on_parts : List DevPart → List DevPart
on_parts parts = filter (λ p. is_on p.row.state) parts

-- the counts from which the room is computed, with the changed blocks and objects of the open group
abbrev pub sizes : Space → ℕ → ℕ → Sizes
sizes s blocks objects =
    record {
      blocks = blocks;
      objects = objects;
      words = sum_by (device_words s) (range_with_len 0 (length s.parts.devs));
      streams = 2 + sum_by (λ p. device_streams p.row.state) s.parts.devs;
      gone = count_by (λ p. is_gone p.row.state) s.parts.devs;
      uncopied = uncopied_units s;
      turning = sum_by (units_on s.meta) (on_devices s) + late1_meta (on_parts s.parts.devs) + late2_meta (on_parts s.parts.devs);
      past = max (sum_by (λ a. a.len) s.meta) (max (late1_meta s.parts.devs) (late2_meta s.parts.devs));
      snaps = false;
    }
