-- A condensing that goes on, and what it leaves as it was.
use Rattle.std.specs.Prelude.{◌≡◌, ℕ, ◌+◌, ◌<◌, List, length, slice_index}
use Rattle.std.specs.List.{zip}
use Rattle.zr_base.specs.declared.space.Entry.{Entry}
use Rattle.zr_base.specs.declared.space.CondPart.{CondPart}
use Rattle.zr_base.specs.declared.space.DevPart.{DevPart}
use Rattle.zr_base.specs.declared.space.DevState.TheVariants.{Gone}
use Rattle.zr_rules.specs.Condense.{IsWorked, condensed, fresh_units}
use Rattle.zr_rules.specs.Mappings.{HasSourceAt, entry_at, target}
use Rattle.zr_rules.specs.Places.{part_of, state_of_dev}
use Rattle.zr_rules.specs.Space.{Space}

-- the mapping of a removed device is worked through so far
pub record IsUnderWay (s : Space) (c : CondPart) : Type 0 where
  pub gone : state_of_dev s.parts.devs c.dev ≡ Gone
  pub worked : IsWorked (part_of s.parts.devs c.dev) c

-- the entries with their counts are those with a unit in use
pub record IsCondensed (p : DevPart) (entries : List Entry) (counts : List ℕ) : Type 0 where
  pub each : length counts ≡ length entries
  pub kept : zip entries counts ≡ condensed p.entries p.counts

-- the entry has a unit that is neither counted as obsolete nor fresh
abbrev pub IsInUse : DevPart → ℕ → Type 0
IsInUse p i = slice_index p.counts i + fresh_units p.fresh (entry_at p.entries i) < (entry_at p.entries i).len

-- each unit of an entry with a unit in use leads where it led
abbrev pub LeadsAsBefore : Space → Space → Type 0
LeadsAsBefore old new =
    (d i u : ℕ) → i < length (part_of old.parts.devs d).entries → HasSourceAt (part_of old.parts.devs d).entries i u → IsInUse (part_of old.parts.devs d) i
    → target (part_of new.parts.devs d).entries u ≡ target (part_of old.parts.devs d).entries u
