-- Why a change is refused.
use Rattle.std.specs.Prelude.{◌≡◌, ◌⊎◌, ℕ, ◌<◌, List, None}
use Rattle.zr_base.specs.declared.refusal.Refusal.{Refusal}
use Rattle.zr_base.specs.declared.refusal.Refusal.TheVariants.{NoSuchObject, OutOfRange, NoRoom, NoRun}
use Rattle.zr_change.specs.declared.ranges.Edit.{Edit}
use Rattle.zr_lines.specs.Sought.{IsDamaged}
use Rattle.zr_sync.specs.Holds.{HasBlocks}
use Rattle.zr_lookup.specs.Objects.{record_now}
use Rattle.zr_rules.specs.Columns.{free_units}
use Rattle.zr_rules.specs.Space.{Space}
use Rattle.zr_store.specs.Store.{Stored}
use Rattle.zr_sync.specs.declared.open.OpenPool.{OpenPool}
use Rattle.zr_txg.specs.Changes.{Changes}
use Rattle.zr_lines.specs.Intents.{Found, IsFound, IsOutside, Means}
use Rattle.zr_lines.specs.Rooms.{needed_units}
use Rattle.zr_lines.specs.declared.intent.Intent.{Intent}
use Rattle.zr_lines.specs.declared.range.Reach.{Reach}

-- why a line is refused while it looks at its object
abbrev pub IsLookRefusal : Refusal → Type 0
IsLookRefusal r = IsDamaged r ⊎ ((r ≡ NoSuchObject) ⊎ (r ≡ OutOfRange))

-- a run of so many units was missing where so many blocks were to be put; of one unit only where fewer units were free
pub record IsMissingRun (units puts free : ℕ) (r : Refusal) : Type 0 where
  pub longest : ℕ
  pub is : r ≡ NoRun units longest
  pub short : longest < units
  pub full : units ≡ 1 → free < puts

-- more units are needed for what is meant than are free
pub record IsShort (reach : Reach) (s : Space) (g : Changes) (id : ℕ) (i : Intent) (r : Refusal) : Type 0 where
  pub needed : ℕ
  pub is : r ≡ NoRoom needed (free_units s)
  pub needed_is : needed ≡ needed_units reach s g id i.rec i.plan.items
  pub short : free_units s < needed

-- a run of the units of the object's blocks is missing, which are more than one, since there is room for so many units
pub record IsLongRun (i : Intent) (r : Refusal) : Type 0 where
  pub longest : ℕ
  pub is : r ≡ NoRun i.rec.units longest
  pub short : longest < i.rec.units
  pub some : 1 < i.rec.units

-- the disks hold no such object of the pool that the line finds
pub record IsAbsent (told : Type 0) (reach : Reach) (id : ℕ) (e : Edit) (old : OpenPool) (disks : List (List ℕ)) : Type 0 where
  pub found : Found
  pub is_found : IsFound reach id e old disks found
  pub none : (s : Stored) → HasBlocks told found.disks found.pool s → record_now s found.pool.dir found.pool.group id ≡ None

-- they hold the object, and the range is not in the line's reach
pub record IsTooFar (told : Type 0) (reach : Reach) (id : ℕ) (e : Edit) (old : OpenPool) (disks : List (List ℕ)) : Type 0 where
  pub found : Found
  pub is_found : IsFound reach id e old disks found
  pub outside : (s : Stored) → HasBlocks told found.disks found.pool s → IsOutside s found.pool.dir found.pool.group id reach e

-- Why a line is refused once it is known what it means to do; `new` is the pool that it leaves, whose group is that of the pool that it found.
pub record IsUndone (told : Type 0) (reach : Reach) (id : ℕ) (e : Edit) (old : OpenPool) (disks : List (List ℕ)) (new : OpenPool) (r : Refusal) : Type 0 where
  pub intent : Intent
  pub means : Means told reach id e old disks intent
  pub stays : new.group ≡ means.found.pool.group
  pub cause : IsShort reach new.space new.group id intent r ⊎ IsLongRun intent r
