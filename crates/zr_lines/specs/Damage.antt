-- Which block a line tells of that is damaged.
use Rattle.std.specs.Prelude.{◌≡◌, ◌⊎◌, ℕ, ◌/◌, List, Some}
use Rattle.zr_base.specs.declared.space.Dva.{Dva}
use Rattle.zr_bptr.specs.declared.Bptr.{Bptr}
use Rattle.zr_bptr.specs.declared.ObjRec.{ObjRec}
use Rattle.zr_bptr.specs.declared.Tree.{Tree}
use Rattle.zr_lines.specs.Intents.{Found}
use Rattle.zr_lookup.specs.Errors.{IsOtherBlock}
use Rattle.zr_lookup.specs.Objects.{record_now, pointer_now}
use Rattle.zr_model.specs.Objects.{Objects}
use Rattle.zr_objset.specs.Errors.{HasBadLeaf, IsNoLeaf}
use Rattle.zr_store.specs.Store.{Stored, AreStored}
use Rattle.zr_sync.specs.Holds.{HasBlocks}
use Rattle.zr_sync.specs.Objects.{HoldsObjects}
use Rattle.zr_sync.specs.declared.open.OpenPool.{OpenPool}
use Rattle.zr_tree.specs.Trees.{own, tree_at, tree_blocks, tree_reach, HasBadBlock, HasDamagedBlock}
use Rattle.zr_txg.specs.Changes.{Changes}

-- One of these blocks has the bytes of another sum than its pointer, and both sums are told. Or one has its own sum and is no tree block of its level, or not all of them are stored: then that sum is told twice.
abbrev pub IsDamageIn : Stored → List Bptr → Dva → List ℕ → List ℕ → Type 0
IsDamageIn s blocks at expected found = HasDamagedBlock s blocks at expected found ⊎ ((found ≡ expected) × (HasBadBlock s blocks at expected ⊎ ¬ AreStored blocks s))

-- while the record of an object is sought: a block of the directory is damaged so, or the leaf that should have it has its own sum and is no leaf of records
abbrev pub IsRecordDamage : Stored → Tree → ℕ → Dva → List ℕ → List ℕ → Type 0
IsRecordDamage s dir id at expected found = IsDamageIn s (tree_reach s dir) at expected found ⊎ ((found ≡ expected) × HasBadLeaf (IsNoLeaf s) (own (tree_at s dir (id / 16))) at expected)

-- The damaged block is one of the directory, of the object's tree, or of those of its blocks that the line needs.
pub data IsDamageOf (s : Stored) (dir : Tree) (g : Changes) (id : ℕ) (Needs : ObjRec → ℕ → Type 0) (at : Dva) (expected found : List ℕ) : Type 0 where
  in_directory : IsRecordDamage s dir id at expected found → IsDamageOf s dir g id Needs at expected found
  in_tree : (r : ObjRec) → record_now s dir g id ≡ Some r → IsDamageIn s (tree_blocks s r.tree) at expected found → IsDamageOf s dir g id Needs at expected found
  in_block : (r : ObjRec) (index : ℕ) → record_now s dir g id ≡ Some r → Needs r index → HasDamagedBlock s (own (pointer_now s g id r index)) at expected found → IsDamageOf s dir g id Needs at expected found
  no_block : (r : ObjRec) (index : ℕ) → record_now s dir g id ≡ Some r → Needs r index → found ≡ expected → HasBadLeaf (IsOtherBlock s r.units) (own (pointer_now s g id r index)) at expected → IsDamageOf s dir g id Needs at expected found
  not_stored : (r : ObjRec) → record_now s dir g id ≡ Some r → found ≡ expected → (AreStored (tree_blocks s r.tree) s → ((index : ℕ) → Needs r index → AreStored (own (pointer_now s g id r index)) s) → ⊥)
      → IsDamageOf s dir g id Needs at expected found

-- The damaged block is one that a line needs of the pool in which it looks, as the disks have it there. That is the pool that was open, or what a commit of its group left; it has the same objects.
pub record FindsDamage (told : Type 0) (IsSought : Found → Type 0) (id : ℕ) (Needs : ObjRec → ℕ → Type 0) (old : OpenPool) (disks : List (List ℕ)) (at : Dva) (expected found : List ℕ) : Type 0 where
  pub sought : Found
  pub is_sought : IsSought sought
  pub keeps : (objects : Objects) → HoldsObjects told disks old objects → HoldsObjects told sought.disks sought.pool objects
  pub damage : (s : Stored) → HasBlocks told sought.disks sought.pool s → IsDamageOf s sought.pool.dir sought.pool.group id Needs at expected found
