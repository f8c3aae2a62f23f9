-- The space of a root.
use Rattle.std.specs.Prelude.{◌≡◌, ℕ, ◌+◌, ◌≤◌, ◌<◌, ◌^◌, ◌==◌, Bool, true, false, not, ◌&&◌, nat_lt, max, List, [], ◌∷◌, ◌++◌, length, if◌then◌else◌, Some}
use Rattle.zr_base.specs.declared.space.CkptPart.{CkptPart}
use Rattle.zr_base.specs.declared.space.CkptPart.TheVariants.{Clear}
use Rattle.zr_base.specs.declared.space.CondPart.{CondPart}
use Rattle.zr_base.specs.declared.space.DevPart.{DevPart}
use Rattle.zr_base.specs.declared.space.DevRow.{DevRow}
use Rattle.zr_base.specs.declared.space.DevState.TheVariants.{Gone}
use Rattle.zr_base.specs.declared.space.Dva.{Dva}
use Rattle.zr_base.specs.declared.space.Extent.{Extent}
use Rattle.zr_base.specs.declared.space.SpaceParts.{SpaceParts}
use Rattle.zr_base.specs.Extents.{has_unit, unit_count}
use Rattle.zr_rules.specs.Condense.{IsWorked}
use Rattle.zr_rules.specs.Devices.{devices_of}
use Rattle.zr_rules.specs.Equation.{root_space}
use Rattle.zr_rules.specs.Mappings.{end_of_last}
use Rattle.zr_rules.specs.Places.{address_hits, is_leaving, is_on, part_of, state_of_dev}
use Rattle.zr_rules.specs.Resolve.{IsRanked}
use Rattle.zr_rules.specs.Space.{Space, nothing_opened, opened_of, role_at, IsLawful}
use Rattle.zr_metaslab.specs.Devices.{Devices, free_at, count_at, units_at, serves_at}
use Rattle.zr_units.specs.Uses.{Uses, IsAccount}
use Rattle.zr_space.specs.Views.{Kept, kept_of, opened_in, part_in, units_there, IsMoved}
use Rattle.zr_space.specs.Reads.{AreCopied, CanReadPart, HasMeta, IsLateSet, IsMapped, IsRead, IsReadMapping}

-- The space has these parts and this metadata of the current and of the saved root, and nothing is opened. An evacuation goes on where the root has it: at the end of
-- the last entry of the device that is leaving.
pub record IsOpened (parts : SpaceParts) (meta saved : List Dva) (s : Space) : Type 0 where
  pub parts_are : s.parts ≡ parts
  pub opened : (d : ℕ) → opened_of s d ≡ nothing_opened
  pub synced : (d : ℕ) → is_leaving (state_of_dev parts.devs d) ≡ true → s.synced ≡ end_of_last (part_of parts.devs d).entries
  pub still : ((d : ℕ) → is_leaving (state_of_dev parts.devs d) ≡ false) → s.synced ≡ 0
  pub meta_is : (d u : ℕ) → address_hits s.meta d u ≡ address_hits meta d u
  pub saved_is : (d u : ℕ) → address_hits s.saved_meta d u ≡ address_hits saved d u
  pub roles : (d u : ℕ) → role_at s d u ≡ role_at (root_space parts meta saved) d u

-- What a root records of a device has one spelling, and fits it.
pub record IsPart (p : DevPart) : Type 0 where
  pub small : p.row.units < 2 ^ 40
  pub mapped : IsMapped p
  pub late1 : IsLateSet p.late1
  pub late2 : IsLateSet p.late2

-- While a device is leaving no checkpoint is held, and nothing of it is kept. What it holds below the end of its last entry is copied, each unit by an entry that is not
-- marked there.
pub record IsEvacuated (ckpt : CkptPart) (p : DevPart) : Type 0 where
  pub quiet : ckpt ≡ Clear
  pub unkept : p.kept ≡ []
  pub copied : AreCopied p.entries p.fresh p.held (end_of_last p.entries)

-- the condensing is that of a device that is gone, and has come so far
pub record IsResumable (parts : List DevPart) (c : CondPart) : Type 0 where
  pub gone : state_of_dev parts c.dev ≡ Gone
  pub worked : IsWorked (part_of parts c.dev) c

-- A space can have these parts and this metadata, with nothing opened: there are at most 32 devices, and each is as a root records it; one at most is leaving, and what is
-- copied of it is; each mapping leads to devices that are there or went later; what is condensed has come so far; and no unit has two uses, so that each copy is held by
-- the device where it lies.
pub record CanOpen (parts : SpaceParts) (meta saved : List Dva) : Type 0 where
  pub few : length parts.devs ≤ 32
  pub each : (d : ℕ) → d < length parts.devs → IsPart (part_of parts.devs d)
  pub single : (d e : ℕ) → is_leaving (state_of_dev parts.devs d) ≡ true → is_leaving (state_of_dev parts.devs e) ≡ true → d ≡ e
  pub evacuated : (d : ℕ) → is_leaving (state_of_dev parts.devs d) ≡ true → IsEvacuated parts.ckpt (part_of parts.devs d)
  pub ranked : IsRanked (devices_of parts.devs)
  pub condensing : (c : CondPart) → parts.cond ≡ Some c → IsResumable parts.devs c
  pub lawful : IsLawful (root_space parts meta saved)

-- Devices that add up with what the allocator has, each by itself.
pub record AreKept (slabs : Devices) (devs : List Kept) : Type 0 where
  pub devices : length slabs ≡ length devs
  pub few : length devs ≤ 32
  pub units : (d : ℕ) → units_at slabs d ≡ (kept_of devs d).uses.units
  pub rows : (d : ℕ) → (kept_of devs d).uses.units ≡ units_there (kept_of devs d).row
  pub small : (d : ℕ) → (kept_of devs d).row.units < 2 ^ 40
  pub moved : (d : ℕ) → IsMoved (kept_of devs d).row (kept_of devs d).moves
  pub serves : (d : ℕ) → serves_at slabs d ≡ (nat_lt d (length devs) && is_on (kept_of devs d).row.state)
  pub account : (d : ℕ) → IsAccount (free_at slabs d) (count_at slabs d) (kept_of devs d).uses

-- the allocator has a device with n units, in service or not; those that are not used are free
pub record AddsAs (old new : Devices) (dev n : ℕ) (on : Bool) (used : List Extent) : Type 0 where
  pub devs : length new ≡ max (length old) (dev + 1)
  pub units : (d : ℕ) → units_at new d ≡ (if d == dev then n else units_at old d)
  pub serves : (d : ℕ) → serves_at new d ≡ (if d == dev then on else serves_at old d)
  pub free : (d u : ℕ) → free_at new d u ≡ (if d == dev then nat_lt u n && not (has_unit used u) else free_at old d u)
  pub counted : count_at new dev + unit_count used ≡ n
  pub counts : (d : ℕ) → (d == dev) ≡ false → count_at new d ≡ count_at old d

-- the units of the device were read, and the allocator has them
pub record HasAdded (s t : Devices) (dev : ℕ) (row : DevRow) (x : Uses) : Type 0 where
  pub used : List Extent
  pub read : IsRead row x used
  pub adds : AddsAs s t dev x.units (is_on row.state) used

-- the device is what a root records at this index, with nothing opened; its copies are not known yet
pub record IsDeviceOf (p : DevPart) (meta saved : List Dva) (d : ℕ) (k : Kept) : Type 0 where
  pub part : part_in k ≡ p
  pub opened : opened_in k ≡ nothing_opened
  pub copies : k.uses.copies ≡ []
  pub mapping : IsReadMapping p k.moves
  pub meta_is : HasMeta meta d k.uses.meta
  pub saved_is : HasMeta saved d k.uses.saved

-- one device more is read, and the allocator has it
pub record ReadsNext (s t : Devices) (old new : List Kept) (part : DevPart) (meta saved : List Dva) : Type 0 where
  pub device : Kept
  pub more : new ≡ old ++ device ∷ []
  pub is : IsDeviceOf part meta saved (length old) device
  pub added : HasAdded s t (length old) device.row device.uses

-- all devices are read
pub record AreReadFrom (parts : List DevPart) (meta saved : List Dva) (slabs : Devices) (devs : List Kept) : Type 0 where
  pub kept : AreKept slabs devs
  pub count : length devs ≡ length parts
  pub each : (d : ℕ) → d < length parts → IsDeviceOf (part_of parts d) meta saved d (kept_of devs d)

-- there are at most 32 devices, and the metadata of both roots lies on them
pub record ArePlaced (devices : ℕ) (meta saved : List Dva) : Type 0 where
  pub few : devices ≤ 32
  pub meta_known : (d u : ℕ) → devices ≤ d → address_hits meta d u ≡ 0
  pub saved_known : (d u : ℕ) → devices ≤ d → address_hits saved d u ≡ 0

-- each device can be read
abbrev pub CanReadAll : List DevPart → List Dva → List Dva → Type 0
CanReadAll parts meta saved = (d : ℕ) → d < length parts → CanReadPart (part_of parts d) meta saved d
