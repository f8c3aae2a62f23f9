-- The blocks that a drop gives back.
use Rattle.std.specs.Prelude.{◌≡◌, ◌⊎◌, ℕ, List, [], Some}
use Rattle.zr_bptr.specs.declared.Bptr.{Bptr}
use Rattle.zr_bptr.specs.declared.ObjRec.{ObjRec}
use Rattle.zr_bptr.specs.declared.Tree.{Tree}
use Rattle.zr_lines.specs.Groups.{IsBehindCommit}
use Rattle.zr_lines.specs.Intents.{Found}
use Rattle.zr_lines.specs.Sought.{CanTake}
use Rattle.zr_sync.specs.Holds.{HasBlocks}
use Rattle.zr_lookup.specs.Objects.{record_now, AreObjectBlocks}
use Rattle.zr_lines.specs.Counts.{new_object}
use Rattle.zr_store.specs.Store.{Stored, AreStored, Now, Swaps}
use Rattle.zr_sync.specs.Pools.{IsSamePool}
use Rattle.zr_sync.specs.declared.open.OpenPool.{OpenPool}
use Rattle.zr_txg.specs.Changes.{Changes}

-- the object is there, and these are its blocks and the tree blocks that lead to them
pub record AreBlocksOf (s : Stored) (dir : Tree) (g : Changes) (id : ℕ) (blocks : List Bptr) : Type 0 where
  pub object : ObjRec
  pub found : record_now s dir g id ≡ Some object
  pub blocks_are : AreObjectBlocks s g id object blocks

-- The blocks of the object as the disks of the pool have it, which are told as they read. A group that is full is committed first, and of the disks behind that nothing is said.
abbrev pub AreFoundIn : Type 0 → List (List ℕ) → OpenPool → ℕ → List Bptr → Type 0
AreFoundIn tells disks pool id blocks = CanTake 0 (new_object pool.group id) pool.group → (s : Stored) → HasBlocks tells disks pool s → AreBlocksOf s pool.dir pool.group id blocks

-- of what the disks held, these blocks went, and all others stay
abbrev pub GivesUp : List Bptr → Type 0 → List (List ℕ) → OpenPool → Type 0 → List (List ℕ) → OpenPool → Type 0
GivesUp blocks tells_old disks_old old tells_new disks_new new = (s : Stored) → HasBlocks tells_old disks_old old s → AreStored blocks s → Now (HasBlocks tells_new disks_new new) (λ n. Swaps s n blocks [])

-- The pool in which a drop looks for its object: the one that was open, or what a commit of its group left, which could not take the object.
abbrev pub IsFoundToDrop : ℕ → OpenPool → List (List ℕ) → Found → Type 0
IsFoundToDrop id old disks f = ((f.pool ≡ old) × (f.disks ≡ disks)) ⊎ (IsSamePool old f.pool × IsBehindCommit id old.group f.pool.group)
