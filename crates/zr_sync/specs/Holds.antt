-- What the devices of an open pool hold of its objects' blocks, and what a commit makes of it.
use Rattle.std.specs.Prelude.{ℕ, List, ◌++◌, None}
use Rattle.zr_store.specs.Store.{Stored, AreStored, Now}
use Rattle.zr_tree.specs.Trees.{tree_reach}
use Rattle.zr_vdev.specs.Stores.{HoldsBlocks}
use Rattle.zr_vdev.specs.declared.kind.Kind.TheVariants.{Block}
use Rattle.zr_commit.specs.Objects.{blocks_of, WritesGroup}
use Rattle.zr_sync.specs.declared.open.OpenPool.{OpenPool}

-- The disks, which are told as they read, hold these blocks.
abbrev pub HasBlocks : Type 0 → List (List ℕ) → OpenPool → Stored → Type 0
HasBlocks tells disks pool s = HoldsBlocks Block pool.table.slots tells disks pool.space None pool.cache s

-- The trees that the open group changes are stored: those of its objects, and the directory.
abbrev pub AreTreesStored : OpenPool → Stored → Type 0
AreTreesStored pool s = AreStored (blocks_of s pool.group.objects ++ tree_reach s pool.dir) s

-- The disks hold the blocks with the group written: the directory has its objects with their changes, and each other one as before.
abbrev pub HasWritten : Type 0 → List (List ℕ) → OpenPool → OpenPool → Stored → Type 0
HasWritten tells disks old new s = Now (HasBlocks tells disks new) (λ n. WritesGroup s n old.group old.dir new.dir)
