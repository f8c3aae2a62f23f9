-- The copies of the units of a device that is leaving, as the disks of an open pool have them.
use Rattle.std.specs.Prelude.{ℕ, List}
use Rattle.zr_shelf.specs.Moments.{World}
use Rattle.zr_vdev.specs.Alike.{CopiesStand}
use Rattle.zr_sync.specs.declared.open.OpenPool.{OpenPool}

-- each copy has the bytes of its unit
abbrev pub HasCopies : List (List ℕ) → OpenPool → Type 0
HasCopies disks pool = CopiesStand disks pool.table.slots pool.space

-- so each has still, as the pool is now
abbrev pub KeepsCopies : World → World → OpenPool → OpenPool → Type 0
KeepsCopies before now old new = HasCopies before.now.seen old → HasCopies now.now.seen new
