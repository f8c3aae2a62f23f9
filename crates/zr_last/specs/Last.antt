-- The last root of an open pool, on the disks.
use Rattle.std.specs.Prelude.{◌≡◌, ℕ, List, slice_index_or}
use Rattle.zr_current.specs.Current.{GoesOnFrom}
use Rattle.zr_label.specs.Blocks.{no_row}
use Rattle.zr_label.specs.declared.root.Uber.{Uber}
use Rattle.zr_newest.specs.Newest.{IsNewestOn, IsOneDevice}
use Rattle.zr_shelf.specs.Moments.{World}
use Rattle.zr_sync.specs.declared.open.OpenPool.{OpenPool}

-- The root that the pool goes on from is the newest of its pool on the disks, and its devices are where the pool has them.
pub record ShowsLast (disks : List (List ℕ)) (pool : OpenPool) : Type 0 where
  pub root : Uber
  pub from : GoesOnFrom root pool
  pub newest : IsNewestOn disks root pool.table.slots

-- what the disks showed so they show so still, for the pool as it is now
abbrev pub KeepsLast : World → World → OpenPool → OpenPool → Type 0
KeepsLast before now old new = ShowsLast before.now.seen old → ShowsLast now.now.seen new

-- the pool goes on from the root from which it went on, with the same devices
pub record KeepsRoot (old new : OpenPool) : Type 0 where
  pub last : new.last ≡ old.last
  pub guid : new.guid ≡ old.guid
  pub table : new.table ≡ old.table

-- The pool goes on from the root from which it went on, and each device is in the slot in which it was: no more has changed than whether one is leaving.
pub record KeepsDevices (old new : OpenPool) : Type 0 where
  pub last : new.last ≡ old.last
  pub guid : new.guid ≡ old.guid
  pub count : new.table.count ≡ old.table.count
  pub slots : new.table.slots ≡ old.table.slots
  pub rows : (d : ℕ) → IsOneDevice (slice_index_or old.table.rows d no_row) (slice_index_or new.table.rows d no_row)
