-- What happens to the units of a device.
use Rattle.std.specs.Prelude.{◌≡◌, ◌⊎◌, ℕ, ◌+◌, ◌≤◌, ◌<◌, Bool, false, not, ◌&&◌, ◌||◌, ◌==◌, List, [], if◌then◌else◌}
use Rattle.zr_base.specs.declared.space.Extent.{Extent}
use Rattle.zr_base.specs.Extents.{has_unit, in_extent, unit_count, AddsUnits, RemovesUnits, IsMaximal}
use Rattle.zr_metaslab.specs.Devices.{Devices, free_at, count_at, KeepsDevices}
use Rattle.zr_units.specs.Uses.{Uses, Freed, none_freed, IsSameUses}

-- the open group has units for a block
pub record Holds (old new : Uses) (e : Extent) : Type 0 where
  pub held : AddsUnits old.held new.held e
  pub born : AddsUnits old.born new.born e
  pub others : new ≡ record old { held = new.held; born = new.born; spare = new.spare }

-- it has units for the copy of units of a device that is leaving
pub record HoldsCopy (old new : Uses) (e : Extent) : Type 0 where
  pub held : AddsUnits old.held new.held e
  pub born : AddsUnits old.born new.born e
  pub copies : AddsUnits old.copies new.copies e
  pub others : new ≡ record old { held = new.held; born = new.born; copies = new.copies; spare = new.spare }

-- it has units for metadata
pub record HoldsMeta (old new : Uses) (e : Extent) : Type 0 where
  pub meta : AddsUnits old.meta new.meta e
  pub others : new ≡ record old { meta = new.meta; spare = new.spare }

-- metadata is given back
pub record DropsMeta (old new : Uses) (e : Extent) : Type 0 where
  pub meta : RemovesUnits old.meta new.meta e
  pub dropped : AddsUnits old.freed.meta new.freed.meta e
  pub others : new ≡ record old { meta = new.meta; freed = record { blocks = old.freed.blocks; meta = new.freed.meta }; spare = new.spare }

-- metadata of the saved root is given back
pub record DropsSaved (old new : Uses) (e : Extent) : Type 0 where
  pub saved : RemovesUnits old.saved new.saved e
  pub dropped : AddsUnits old.freed.meta new.freed.meta e
  pub others : new ≡ record old { saved = new.saved; freed = record { blocks = old.freed.blocks; meta = new.freed.meta }; spare = new.spare }

-- units of a block are freed: those that the open group allocated are used no more, and the others are deferred
pub record FreesUnits (old new : Uses) (e : Extent) : Type 0 where
  pub held : RemovesUnits old.held new.held e
  pub born : (u : ℕ) → has_unit new.born u ≡ (has_unit old.born u && not (in_extent e u))
  pub deferred : (u : ℕ) → has_unit new.freed.blocks u ≡ (has_unit old.freed.blocks u || (in_extent e u && not (has_unit old.born u)))
  pub others : new ≡ record old { held = new.held; born = new.born; freed = record { blocks = new.freed.blocks; meta = old.freed.meta }; spare = new.spare }

-- copies are freed: those that the open group made are used no more, and the others are deferred
pub record FreesCopies (old new : Uses) (e : Extent) : Type 0 where
  pub held : RemovesUnits old.held new.held e
  pub born : (u : ℕ) → has_unit new.born u ≡ (has_unit old.born u && not (in_extent e u))
  pub copies : RemovesUnits old.copies new.copies e
  pub deferred : (u : ℕ) → has_unit new.freed.blocks u ≡ (has_unit old.freed.blocks u || (in_extent e u && not (has_unit old.born u)))
  pub others : new ≡ record old { held = new.held; born = new.born; copies = new.copies; freed = record { blocks = new.freed.blocks; meta = old.freed.meta }; spare = new.spare }

-- units that the open group has for a block are from now on for a copy
pub record TurnsCopies (old new : Uses) (e : Extent) : Type 0 where
  pub copies : AddsUnits old.copies new.copies e
  pub others : new ≡ record old { copies = new.copies; spare = new.spare }

-- all copies are given up: those that the open group made are used no more, and the others are deferred
pub record GivesUpCopies (old new : Uses) : Type 0 where
  pub held : (u : ℕ) → has_unit new.held u ≡ (has_unit old.held u && not (has_unit old.copies u))
  pub born : (u : ℕ) → has_unit new.born u ≡ (has_unit old.born u && not (has_unit old.copies u))
  pub deferred : (u : ℕ) → has_unit new.freed.blocks u ≡ (has_unit old.freed.blocks u || (has_unit old.copies u && not (has_unit old.born u)))
  pub count : unit_count new.held + unit_count old.copies ≡ unit_count old.held
  pub held_maximal : IsMaximal new.held
  pub born_maximal : IsMaximal new.born
  pub deferred_maximal : IsMaximal new.freed.blocks
  pub others : new ≡ record old { held = new.held; born = new.born; copies = []; freed = record { blocks = new.freed.blocks; meta = old.freed.meta }; spare = new.spare }

-- units of a block that the checkpoint may have are freed: those that the open group allocated are used no more, and the others are kept
pub record KeepsUnits (old new : Uses) (e : Extent) : Type 0 where
  pub held : (u : ℕ) → has_unit new.held u ≡ (has_unit old.held u && not (in_extent e u && has_unit old.born u))
  pub born : (u : ℕ) → has_unit new.born u ≡ (has_unit old.born u && not (in_extent e u))
  pub kept : (u : ℕ) → has_unit new.kept u ≡ (has_unit old.kept u || (in_extent e u && not (has_unit old.born u)))
  pub came : (u : ℕ) → has_unit new.came u ≡ (has_unit old.came u || (in_extent e u && not (has_unit old.born u)))
  pub others : new ≡ record old { held = new.held; born = new.born; kept = new.kept; came = new.came; spare = new.spare }

-- What becomes of the sets of a device where units are kept, and of the allocator's.
pub record KeepsBorn (held held_new born born_new kept kept_new came came_new : List Extent) (old new : Devices) (dev : ℕ) (e : Extent) : Type 0 where
  pub free : (d u : ℕ) → free_at new d u ≡ (free_at old d u || ((d == dev) && (in_extent e u && has_unit born u)))
  pub held_is : (u : ℕ) → has_unit held_new u ≡ (has_unit held u && not (in_extent e u && has_unit born u))
  pub born_is : (u : ℕ) → has_unit born_new u ≡ (has_unit born u && not (in_extent e u))
  pub kept_is : (u : ℕ) → has_unit kept_new u ≡ (has_unit kept u || (in_extent e u && not (has_unit born u)))
  pub came_is : (u : ℕ) → has_unit came_new u ≡ (has_unit came u || (in_extent e u && not (has_unit born u)))
  pub count : count_at new dev + unit_count held_new ≡ count_at old dev + unit_count held
  pub others : (d : ℕ) → (d == dev) ≡ false → count_at new d ≡ count_at old d
  pub devices : KeepsDevices old new
  pub held_maximal : IsMaximal held_new
  pub born_maximal : IsMaximal born_new
  pub kept_maximal : IsMaximal kept_new
  pub came_maximal : IsMaximal came_new

-- kept units are given up: they are deferred
pub record DiscardsUnits (old new : Uses) (e : Extent) : Type 0 where
  pub held : RemovesUnits old.held new.held e
  pub kept : RemovesUnits old.kept new.kept e
  pub came : (u : ℕ) → has_unit new.came u ≡ (has_unit old.came u && not (in_extent e u))
  pub went : (u : ℕ) → has_unit new.went u ≡ (has_unit old.went u || (in_extent e u && not (has_unit old.came u)))
  pub deferred : AddsUnits old.freed.blocks new.freed.blocks e
  pub came_maximal : IsMaximal old.came → IsMaximal new.came
  pub went_maximal : IsMaximal old.went → IsMaximal new.went
  pub others : new ≡ record old { held = new.held; kept = new.kept; came = new.came; went = new.went; freed = record { blocks = new.freed.blocks; meta = old.freed.meta }; spare = new.spare }

-- nothing of the extent is given up, or a front of it
abbrev pub DiscardsFront : Uses → Uses → Extent → Type 0
DiscardsFront old new e = IsSameUses old new ⊎ ((n : ℕ) × (0 < n) × (n ≤ e.len) × DiscardsUnits old new (record { start = e.start; len = n }))

-- a commit ages what is freed, and the oldest of it is used no more
abbrev pub aged_uses : Uses → Uses
aged_uses x = record x { born = []; came = []; went = []; freed = none_freed; late1 = x.freed; late2 = x.late1 }

-- a reset lets go of all that is freed
abbrev pub cleared_uses : Uses → Uses
cleared_uses x = record x { born = []; came = []; went = []; freed = none_freed; late1 = none_freed; late2 = none_freed }

-- the metadata of the current root is the saved root's from now on
abbrev pub saved_uses : Uses → Uses
saved_uses x = record x { meta = []; saved = x.meta }

-- copies are blocks like others from now on
abbrev pub taken_uses : Uses → Uses
taken_uses x = record x { copies = [] }

abbrev pub has_freed : Freed → ℕ → Bool
has_freed f u = has_unit f.blocks u || has_unit f.meta u

-- the allocator has taken back these units of one device, so many, and all else of it is the same
pub record TakesBack (old new : Devices) (dev : ℕ) (given : ℕ → Bool) (n : ℕ) : Type 0 where
  pub free : (d u : ℕ) → free_at new d u ≡ (free_at old d u || ((d == dev) && given u))
  pub count : (d : ℕ) → count_at new d ≡ count_at old d + (if d == dev then n else 0)
  pub devices : KeepsDevices old new

-- What becomes of the born and the deferred units of a device where a block's are freed, and of the allocator's.
pub record FreesBorn (born born_new deferred deferred_new : List Extent) (old new : Devices) (dev : ℕ) (e : Extent) : Type 0 where
  pub free : (d u : ℕ) → free_at new d u ≡ (free_at old d u || ((d == dev) && (in_extent e u && has_unit born u)))
  pub deferred_is : (u : ℕ) → has_unit deferred_new u ≡ (has_unit deferred u || (in_extent e u && not (has_unit born u)))
  pub born_is : (u : ℕ) → has_unit born_new u ≡ (has_unit born u && not (in_extent e u))
  pub count : count_at new dev + unit_count deferred_new ≡ count_at old dev + unit_count deferred + e.len
  pub others : (d : ℕ) → (d == dev) ≡ false → count_at new d ≡ count_at old d
  pub devices : KeepsDevices old new
  pub born_maximal : IsMaximal born_new
  pub deferred_maximal : IsMaximal deferred_new

-- What becomes of a device's deferred units where all units of a set are given up, and of the allocator's.
pub record GivesUpSet (given born deferred deferred_new : List Extent) (old new : Devices) (dev : ℕ) : Type 0 where
  pub free : (d u : ℕ) → free_at new d u ≡ (free_at old d u || ((d == dev) && (has_unit given u && has_unit born u)))
  pub count : count_at new dev + unit_count deferred_new ≡ count_at old dev + unit_count deferred + unit_count given
  pub others : (d : ℕ) → (d == dev) ≡ false → count_at new d ≡ count_at old d
  pub devices : KeepsDevices old new
