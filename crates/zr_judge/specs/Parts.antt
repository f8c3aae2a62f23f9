-- What the parts of a root must be by themselves, and which of these rules is broken first.
use Rattle.std.specs.Prelude.{◌≡◌, ℕ, ◌<◌, ◌^◌, ◌||◌, true, List, [], All, Option, Some, None}
use Rattle.std.specs.List.{AllByRecursion}
use Rattle.zr_base.specs.Extents.{has_unit}
use Rattle.zr_base.specs.declared.space.CkptPart.{CkptPart}
use Rattle.zr_base.specs.declared.space.CkptPart.TheVariants.{Clear}
use Rattle.zr_base.specs.declared.space.CondPart.{CondPart}
use Rattle.zr_base.specs.declared.space.DevPart.{DevPart}
use Rattle.zr_base.specs.declared.space.DevState.TheVariants.{Gone}
use Rattle.zr_base.specs.declared.space.SpaceParts.{SpaceParts}
use Rattle.zr_indirect.specs.Mapped.{HasCounts}
use Rattle.zr_rules.specs.Condense.{IsWorked}
use Rattle.zr_rules.specs.Devices.{devices_of}
use Rattle.zr_rules.specs.Mappings.{end_of_last, has_source}
use Rattle.zr_rules.specs.Places.{is_leaving, part_of, state_of_dev}
use Rattle.zr_rules.specs.Resolve.{IsRanked}
use Rattle.zr_space.specs.Reads.{AreEntries, CanRead}

-- The entries of the device rise within its units, each has a count, and none has more obsolete units than units.
pub record HasMapping (p : DevPart) : Type 0 where
  pub small : p.row.units < 2 ^ 40
  pub entries : AreEntries p.row.units p.entries
  pub counts : HasCounts p.entries p.counts p.fresh

-- and what is obsolete and not counted is a set of its units
pub record GoesTogether (p : DevPart) : Type 0 where
  pub mapping : HasMapping p
  pub marks : CanRead p.fresh [] p.row.units

-- what is condensed is the mapping of a device that is gone, worked through as far as the record says
abbrev pub MayCondense : List DevPart → Option CondPart → Type 0
MayCondense devs None = Unit {0}
MayCondense devs (Some c) = (state_of_dev devs c.dev ≡ Gone) × IsWorked (part_of devs c.dev) c

-- What a device that is leaving has copied: no obsolete unit is counted, each unit of an entry is held or marked and not both, and each that is held below the end of the last entry has one.
pub record HasCopied (p : DevPart) : Type 0 where
  pub counts : AllByRecursion (λ n. n ≡ 0) p.counts
  pub held : CanRead p.held [] p.row.units
  pub marks : CanRead p.fresh p.held p.row.units
  pub there : (u : ℕ) → has_source p.entries u ≡ true → (has_unit p.held u || has_unit p.fresh u) ≡ true
  pub copied : (u : ℕ) → has_unit p.held u ≡ true → u < end_of_last p.entries → has_source p.entries u ≡ true

-- no device is leaving, or one, and then no checkpoint is there
pub record MayLeave (devs : List DevPart) (ckpt : CkptPart) : Type 0 where
  pub one : (d e : ℕ) → is_leaving (state_of_dev devs d) ≡ true → is_leaving (state_of_dev devs e) ≡ true → d ≡ e
  pub quiet : (d : ℕ) → is_leaving (state_of_dev devs d) ≡ true → ckpt ≡ Clear
  pub each : (d : ℕ) → is_leaving (state_of_dev devs d) ≡ true → HasCopied (part_of devs d)

-- no rule is broken
pub record BreaksNone (parts : SpaceParts) : Type 0 where
  pub mappings : All GoesTogether parts.devs
  pub destinations : IsRanked (devices_of parts.devs)
  pub condensing : MayCondense parts.devs parts.cond
  pub removal : MayLeave parts.devs parts.ckpt

-- the rule with this number is broken, and none before it
pub data BreaksFirst (parts : SpaceParts) (n : ℕ) : Type 0 where
  mappings : n ≡ 3 → (All GoesTogether parts.devs → ⊥) → BreaksFirst parts n
  destinations : n ≡ 4 → All GoesTogether parts.devs → (IsRanked (devices_of parts.devs) → ⊥) → BreaksFirst parts n
  condensing : n ≡ 5 → All GoesTogether parts.devs → IsRanked (devices_of parts.devs) → (MayCondense parts.devs parts.cond → ⊥) → BreaksFirst parts n
  removal : n ≡ 6 → All GoesTogether parts.devs → IsRanked (devices_of parts.devs) → MayCondense parts.devs parts.cond → (MayLeave parts.devs parts.ckpt → ⊥) → BreaksFirst parts n
