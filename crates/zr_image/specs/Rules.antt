-- What the parts of a root must be, rule by rule.
use Rattle.std.specs.Prelude.{◌≡◌, ℕ, ◌+◌, ◌^◌, ◌<◌, ◌≤◌, true, false, List, Option, Some, None}
use Rattle.std.specs.List.{AllByRecursion, AllZip}
use Rattle.zr_base.specs.declared.space.Dva.{Dva}
use Rattle.zr_base.specs.declared.space.Entry.{Entry}
use Rattle.zr_base.specs.declared.space.DevPart.{DevPart}
use Rattle.zr_base.specs.declared.space.CondPart.{CondPart}
use Rattle.zr_base.specs.declared.space.SpaceParts.{SpaceParts}
use Rattle.zr_base.specs.declared.space.CkptPart.TheVariants.{Clear}
use Rattle.zr_base.specs.Extents.{has_unit}
use Rattle.zr_rules.specs.Places.{is_leaving, is_gone, part_of, state_of_dev, is_held, address_hits}
use Rattle.zr_rules.specs.Mappings.{IsRising, has_source, end_of_last}
use Rattle.zr_rules.specs.Devices.{devices_of}
use Rattle.zr_rules.specs.Resolve.{IsRanked}
use Rattle.zr_rules.specs.Condense.{IsWorked, fresh_units}
use Rattle.zr_rules.specs.Space.{Space, IsLawful}
use Rattle.zr_rules.specs.Columns.{free_units, sizes}
use Rattle.zr_rules.specs.Equation.{Adds, Spends, SavedRoot}
use Rattle.zr_rules.specs.Owed.{owed}
use Rattle.zr_image.specs.Checks.{Check, ◌>>=◌, Demands}
use Rattle.zr_image.specs.Numbers.{Mappings, Destinations, Condensing, Removal, broken}

-- no unit of metadata is allocated in a space map
abbrev pub HoldsNoMeta : List DevPart → List Dva → Type 0
HoldsNoMeta parts meta = (d u : ℕ) → is_held parts d u ≡ true → address_hits meta d u ≡ 0

-- Entries in order and within the device, each fresh obsolete unit in one, and none with more obsolete units than units.
pub record HasLawfulEntries (p : DevPart) : Type 0 where
  pub rising : IsRising p.entries
  pub within : AllByRecursion (λ (e : Entry). e.src + e.len ≤ p.row.units) p.entries
  pub counts : AllZip (λ (e : Entry) (count : ℕ). count + fresh_units p.fresh e ≤ e.len) p.entries p.counts
  pub fresh : (u : ℕ) → has_unit p.fresh u ≡ true → has_source p.entries u ≡ true

-- what is condensed is the mapping of a device that is gone
abbrev pub IsLawfulCondensing : List DevPart → Option CondPart → Type 0
IsLawfulCondensing parts None = Unit {0}
IsLawfulCondensing parts (Some c) = (is_gone (state_of_dev parts c.dev) ≡ true) × IsWorked (part_of parts c.dev) c

-- A device that is leaving: there is no checkpoint, no obsolete unit is counted, and of what is copied each unit is held, or was freed and marked.
pub record IsLawfulLeaving (parts : SpaceParts) (p : DevPart) : Type 0 where
  pub ckpt : parts.ckpt ≡ Clear
  pub counts : AllByRecursion (λ count. count ≡ 0) p.counts
  pub copied : (u : ℕ) → has_unit p.held u ≡ true → u < end_of_last p.entries → (has_source p.entries u ≡ true) × (has_unit p.fresh u ≡ false)
  pub held : (u : ℕ) → has_source p.entries u ≡ true → has_unit p.fresh u ≡ false → has_unit p.held u ≡ true

-- at most one device is leaving, and lawfully
pub record HasLawfulRemoval (parts : SpaceParts) : Type 0 where
  pub one : (a b : ℕ) → is_leaving (state_of_dev parts.devs a) ≡ true → is_leaving (state_of_dev parts.devs b) ≡ true → a ≡ b
  pub each : (d : ℕ) → is_leaving (state_of_dev parts.devs d) ≡ true → IsLawfulLeaving parts (part_of parts.devs d)

-- The rules that the parts show by themselves, in their order over all devices.
abbrev pub AreLawfulParts : SpaceParts → Check (Unit {0})
AreLawfulParts parts = do
  mappings ← Demands (AllByRecursion HasLawfulEntries parts.devs) (broken Mappings)
  destinations ← Demands (IsRanked (devices_of parts.devs)) (broken Destinations)
  condensing ← Demands (IsLawfulCondensing parts.devs parts.cond) (broken Condensing)
  Demands (HasLawfulRemoval parts) (broken Removal)

-- Each unit of the space has one use, and the pointers lead to the live ones.
pub record IsBalanced (s : Space) (live : List Dva) (saved : Option SavedRoot) : Type 0 where
  pub once : IsLawful s
  pub adds : Adds s live saved
  pub spends : Spends s live

-- there is room for what is owed, and the number of the group is not too high
pub record HasRoom (txg : ℕ) (s : Space) : Type 0 where
  pub room : owed (sizes s 0 0) ≤ free_units s
  pub low : txg ≤ 2 ^ 63
