-- What is kept of devices where a removal ends or is given up, and where the copies are from.
use Rattle.std.specs.Prelude.{◌≡◌, ℕ, ◌+◌, ◌<◌, true, false, ◌||◌, ◌&&◌, List, length, Some}
use Rattle.zr_base.specs.declared.space.DevRow.{DevRow}
use Rattle.zr_base.specs.declared.space.DevState.TheVariants.{On, Gone}
use Rattle.zr_base.specs.Extents.{has_unit, unit_count}
use Rattle.zr_rules.specs.Mappings.{target}
use Rattle.zr_rules.specs.Places.{is_fresh, is_leaving, part_of, state_of_dev, units_of_dev}
use Rattle.zr_rules.specs.Space.{Space}
use Rattle.zr_metaslab.specs.Devices.{Devices, free_at, count_at, KeepsDevices}
use Rattle.zr_indirect.specs.Mapped.{Mapped, in_service}
use Rattle.zr_units.specs.Changes.{GivesUpCopies, taken_uses}
use Rattle.zr_units.specs.Uses.{unused}
use Rattle.zr_space.specs.Views.{Kept, kept_of}

-- its copies are blocks like others
abbrev pub without_copies : Kept → Kept
without_copies k = record k { uses = taken_uses k.uses }

-- a device that is gone has its mapping alone
abbrev pub gone_device : DevRow → ℕ → ℕ → Mapped → Kept
gone_device r txg spare m = record { row = record r { state = Gone; gone = txg }; uses = record (unused 0) { spare = spare }; moves = m }

-- the device in service again, with no mapping
abbrev pub back_in_service : Kept → Kept
back_in_service k = record k { row = record k.row { state = On }; moves = in_service }

-- its copies are given up
pub record GivesUpKept (old new : Kept) : Type 0 where
  pub row : new.row ≡ old.row
  pub moves : new.moves ≡ old.moves
  pub gives : GivesUpCopies old.uses new.uses

-- The copies of all devices are given up: the allocator has those that the open group made.
pub record GivesUpAll (s t : Devices) (old new : List Kept) : Type 0 where
  pub count : length new ≡ length old
  pub each : (d : ℕ) → GivesUpKept (kept_of old d) (kept_of new d)
  pub free : (d u : ℕ) → free_at t d u ≡ (free_at s d u || (has_unit (kept_of old d).uses.copies u && has_unit (kept_of old d).uses.born u))
  pub freed : (d : ℕ) → count_at t d + unit_count (kept_of new d).uses.freed.blocks ≡ count_at s d + unit_count (kept_of old d).uses.freed.blocks + unit_count (kept_of old d).uses.copies
  pub devices : KeepsDevices s t

-- the unit has the copy of one of a device that is leaving, which is not marked
pub record HasSource (s : Space) (e v : ℕ) : Type 0 where
  pub dev : ℕ
  pub unit : ℕ
  pub leaving : is_leaving (state_of_dev s.parts.devs dev) ≡ true
  pub within : unit < units_of_dev s.parts.devs dev
  pub unmarked : is_fresh s.parts.devs dev unit ≡ false
  pub leads : target (part_of s.parts.devs dev).entries unit ≡ Some (e, v)
