-- What a line leaves that changed an object.
use Rattle.std.specs.Prelude.{◌≡◌, ℕ, ◌≤◌, List}
use Rattle.zr_change.specs.Plans.{HasRecorded, IsChanged, olds_of}
use Rattle.zr_change.specs.declared.ranges.Edit.{Edit}
use Rattle.zr_sync.specs.Holds.{HasBlocks}
use Rattle.zr_rules.specs.Columns.{free_units}
use Rattle.zr_rules.specs.Space.{Space}
use Rattle.zr_store.specs.Store.{AreStored, Now, Stored}
use Rattle.zr_sync.specs.declared.open.OpenPool.{OpenPool}
use Rattle.zr_txg.specs.Changes.{Changes}
use Rattle.zr_lines.specs.Intents.{Found, Means}
use Rattle.zr_lines.specs.Rooms.{needed_units}
use Rattle.zr_lines.specs.declared.intent.Intent.{Intent}
use Rattle.zr_lines.specs.declared.range.Reach.{Reach}

-- there was room for what was meant, and the group has recorded a pointer for each planned block, and nothing else
pub record HasDone (reach : Reach) (id : ℕ) (i : Intent) (before : Space) (old new : Changes) : Type 0 where
  pub room : needed_units reach before old id i.rec i.plan.items ≤ free_units before
  pub recorded : HasRecorded id i.rec i.plan.items old new

-- The line is done: what it meant to do with the pool that it found is done with the group of that pool. If the disks held the
-- old blocks before the new ones were put, they hold the new ones in place of the old, and each planned block has its new bytes.
pub record IsDone (told : Type 0) (reach : Reach) (id : ℕ) (e : Edit) (old : OpenPool) (disks : List (List ℕ)) (told_new : Type 0) (disks_new : List (List ℕ)) (new : OpenPool) : Type 0 where
  pub intent : Intent
  pub means : Means told reach id e old disks intent
  pub before : Found
  pub same : before.pool.group ≡ means.found.pool.group
  pub done : HasDone reach id intent before.pool.space before.pool.group new.group
  pub changed : (s : Stored) → HasBlocks told before.disks before.pool s → AreStored (olds_of intent.plan.items) s
      → Now (HasBlocks told_new disks_new new) (λ n. IsChanged id intent.rec intent.plan.items s before.pool.group n new.group)
