-- What the lines of a removal do to an open pool.
use Rattle.std.specs.Prelude.{◌≡◌, ◌⊎◌, ℕ, true, List, IfSome, slice_index_or}
use Rattle.zr_base.specs.declared.space.DevState.TheVariants.{On, Leaving, Gone}
use Rattle.zr_label.specs.Blocks.{no_row}
use Rattle.zr_rules.specs.Places.{is_leaving, state_of_dev}
use Rattle.zr_rules.specs.Space.{Space}
use Rattle.zr_rules.specs.Steps.{Cancels, Finishes, Leaves}
use Rattle.zr_model.specs.Objects.{Objects}
use Rattle.zr_shelf.specs.Moments.{IsStill, World}
use Rattle.zr_vdev.specs.Stores.{KeepsOthers}
use Rattle.zr_vdev.specs.declared.kind.Kind.TheVariants.{Meta}
use Rattle.zr_sync.specs.Commits.{EndsGroup, IsNextRoot, IsShownFrom}
use Rattle.zr_sync.specs.Leads.{CommitsObjects}
use Rattle.zr_sync.specs.Pools.{IsOpen, IsSamePool}
use Rattle.zr_sync.specs.Writes.{WritesIntoFree}
use Rattle.zr_sync.specs.declared.open.OpenPool.{OpenPool}
use Rattle.zr_removal.specs.Metadata.{GivesMetadata}
use Rattle.zr_removal.specs.Rows.{with_row, without_slot}

-- the device is leaving in the space and in the table, and nothing else is changed
pub record LeavesPool (old new : OpenPool) (d : ℕ) : Type 0 where
  pub leaves : Leaves old.space new.space d
  pub table : new.table ≡ with_row old.table d (record (slice_index_or old.table.rows d no_row) { state = Leaving })
  pub rest : new ≡ record old { space = new.space; table = new.table }

-- A removal begins: the device is leaving, and a reset tells so.
pub record BeginsRemoval (sizes : List ℕ) (told : Type 0) (now : World) (old new : OpenPool) (d : ℕ) : Type 0 where
  pub left : OpenPool
  pub leaves : LeavesPool old left d
  pub same : IsSamePool left new
  pub root : IfSome new.last (IsNextRoot left true)
  pub resets : EndsGroup true left.space new.space
  pub shown : told → IfSome new.last (λ u. (before : World) × IsShownFrom sizes left u before now)

-- Wherever the beginning of a removal stops: nothing was done, or the pool of which the device is leaving was being committed with these objects, by a reset.
abbrev pub BeginsInPart : List ℕ → Objects → OpenPool → ℕ → World → World → Type 0
BeginsInPart sizes objects old d before now = IsStill before now ⊎ ((left : OpenPool) × IsOpen sizes left × LeavesPool old left d × CommitsObjects ⊥ sizes left true objects before now)

-- the device is back in service in the space and in the table, and nothing else is changed
pub record CancelsSpace (old new : OpenPool) (d : ℕ) : Type 0 where
  pub cancels : Cancels old.space new.space d
  pub table : new.table ≡ with_row old.table d (record (slice_index_or old.table.rows d no_row) { state = On })
  pub rest : new ≡ record old { space = new.space; table = new.table }

-- The device is back in service in the space and in the table, and the streams of its mapping are given back; nothing else is changed.
pub record ComesBack (old new : OpenPool) (d : ℕ) : Type 0 where
  pub back : Space
  pub cancels : Cancels old.space back d
  pub streams : KeepsOthers Meta back new.space
  pub table : new.table ≡ with_row old.table d (record (slice_index_or old.table.rows d no_row) { state = On })
  pub rest : new ≡ record old { space = new.space; table = new.table; cache = new.cache; streams = new.streams; cond = new.cond }

-- A removal is given up, and a reset tells so.
pub record CancelsRemoval (sizes : List ℕ) (told : Type 0) (now : World) (old new : OpenPool) (d : ℕ) : Type 0 where
  pub back : OpenPool
  pub comes : ComesBack old back d
  pub same : IsSamePool back new
  pub root : IfSome new.last (IsNextRoot back true)
  pub resets : EndsGroup true back.space new.space
  pub shown : told → IfSome new.last (λ u. (before : World) × IsShownFrom sizes back u before now)

-- The device that was leaving is back in service, nothing was written meanwhile but units that were free or the group's own, and the pool was being committed with these objects, by a reset.
pub record CommitsBack (sizes : List ℕ) (objects : Objects) (old : OpenPool) (before now : World) : Type 0 where
  pub dev : ℕ
  pub leaving : is_leaving (state_of_dev old.space.parts.devs dev) ≡ true
  pub back : OpenPool
  pub ready : IsOpen sizes back
  pub comes : ComesBack old back dev
  pub start : World
  pub written : WritesIntoFree old before start
  pub commits : CommitsObjects ⊥ sizes back true objects start now

-- Wherever the giving up of a removal stops: nothing was written but units that were free or the group's own, or the pool to which the device has come back was being committed with these objects, by a reset.
abbrev pub CancelsInPart : List ℕ → Objects → OpenPool → World → World → Type 0
CancelsInPart sizes objects old before now = WritesIntoFree old before now ⊎ CommitsBack sizes objects old before now

-- The device is gone in the space and in the table, in the open group, behind metadata that was left on it, and nothing else is changed but what is cached.
pub record FinishesSpace (old new : OpenPool) (d : ℕ) : Type 0 where
  pub given : Space
  pub gives : GivesMetadata old.space given
  pub finishes : Finishes given new.space d old.group.txg
  pub table : new.table ≡ with_row old.table d (record (slice_index_or old.table.rows d no_row) { state = Gone; gone = old.group.txg })
  pub rest : new ≡ record old { space = new.space; table = new.table; cache = new.cache }

-- the device has no disk any more
pub record ForgetsSlot (old new : OpenPool) (d : ℕ) : Type 0 where
  pub table : new.table ≡ without_slot old.table d
  pub rest : new ≡ record old { table = new.table }

-- The device is gone in the space and in the table, in the open group, behind metadata that was left on it, and the streams of its sets are given back; nothing else is changed.
pub record Vanishes (old new : OpenPool) (d : ℕ) : Type 0 where
  pub given : Space
  pub gives : GivesMetadata old.space given
  pub gone : Space
  pub finishes : Finishes given gone d old.group.txg
  pub streams : KeepsOthers Meta gone new.space
  pub table : new.table ≡ with_row old.table d (record (slice_index_or old.table.rows d no_row) { state = Gone; gone = old.group.txg })
  pub rest : new ≡ record old { space = new.space; table = new.table; cache = new.cache; streams = new.streams; cond = new.cond }

-- A removal ends: the device is gone, a reset tells so, and it has no disk any more.
pub record EndsRemoval (sizes : List ℕ) (told : Type 0) (now : World) (old new : OpenPool) (d : ℕ) : Type 0 where
  pub gone : OpenPool
  pub vanishes : Vanishes old gone d
  pub ended : OpenPool
  pub same : IsSamePool gone ended
  pub root : IfSome new.last (IsNextRoot gone true)
  pub resets : EndsGroup true gone.space new.space
  pub shown : told → IfSome new.last (λ u. (before : World) × IsShownFrom sizes gone u before now)
  pub forgets : ForgetsSlot ended new d
