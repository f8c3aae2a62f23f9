-- The objects of an open pool, as a store of its blocks holds them.
use Rattle.std.specs.Prelude.{◌≡◌, ℕ, ◌≤◌, zero, suc, List, [], ◌++◌, Option, Some, None}
use Rattle.std.specs.List.{sum_by}
use Rattle.std.specs.FinMap as map
use Rattle.zr_bptr.specs.declared.Bptr.{Bptr}
use Rattle.zr_bptr.specs.declared.ObjRec.{ObjRec}
use Rattle.zr_bptr.specs.declared.Tree.{Tree}
use Rattle.zr_store.specs.Store.{Stored, AreStored, IsOnce}
use Rattle.zr_tree.specs.Trees.{tree_reach}
use Rattle.zr_objset.specs.Records.{record_of}
use Rattle.zr_txg.specs.Changes.{Changes, change_in}
use Rattle.zr_lookup.specs.Objects.{record_now, AreObjectBlocks}
use Rattle.zr_model.specs.Objects.{Objects}
use Rattle.zr_moves.specs.Account.{Account, IsObjectAt}

-- The blocks of an object as it is now: its leaves, and the tree blocks that lead to those that the open group has not changed. One that is not there has none, and the
-- group has no block of it.
abbrev pub AreBlocksNow : Stored → Changes → ℕ → Option ObjRec → List Bptr → Type 0
AreBlocksNow s g id None blocks = (blocks ≡ []) × ((i : ℕ) → change_in g id i ≡ None)
AreBlocksNow s g id (Some r) blocks = AreObjectBlocks s g id r blocks

-- the blocks of the objects with the first IDs
abbrev pub blocks_below : (ℕ → List Bptr) → ℕ → List Bptr
blocks_below blocks zero = []
blocks_below blocks (suc n) = blocks_below blocks n ++ blocks n

-- The blocks of the directory and those of all objects are stored beside each other, and no others. No address is stored twice. Behind the records of 65,536 objects the
-- directory has none.
pub record HasAllBlocks (s : Stored) (dir : Tree) (g : Changes) : Type 0 where
  pub blocks : ℕ → List Bptr
  pub each : (id : ℕ) → AreBlocksNow s g id (record_now s dir g id) (blocks id)
  pub stored : (n : ℕ) → AreStored (tree_reach s dir ++ blocks_below blocks n) s
  pub whole : (n : ℕ) → 65536 ≤ n → (weight : Bptr → ℕ) → sum_by weight s.pointers ≤ sum_by weight (tree_reach s dir ++ blocks_below blocks n)
  pub once : IsOnce s
  pub past : (id : ℕ) → 65536 ≤ id → record_of s dir id ≡ None

-- The store has all blocks of the account, and their bytes are these objects.
pub record HasObjects (s : Stored) (a : Account) (objects : Objects) : Type 0 where
  pub blocks : HasAllBlocks s a.dir a.changes
  pub each : (id : ℕ) → IsObjectAt s a id (record_now s a.dir a.changes id) (map.get objects id)

-- What is stored is the blocks of the directory and those of all objects, as the account has them now.
pub record AreAllOf (s : Stored) (a : Account) : Type 0 where
  pub blocks : ℕ → List Bptr
  pub each : (id : ℕ) → AreBlocksNow s a.changes id (record_now s a.dir a.changes id) (blocks id)
  pub all : (n : ℕ) → 65536 ≤ n → (weight : Bptr → ℕ) → sum_by weight s.pointers ≡ sum_by weight (tree_reach s a.dir ++ blocks_below blocks n)
