-- The objects of a group in the trees of a commit.
use Rattle.std.specs.Prelude.{◌≡◌, ℕ, List, [], ◌∷◌, ◌++◌, slice_index_or, Option, Some, None}
use Rattle.std.specs.List.{flat_map, AllByRecursion}
use Rattle.zr_bptr.specs.declared.Bptr.{Bptr}
use Rattle.zr_bptr.specs.declared.Ptr.{Ptr}
use Rattle.zr_bptr.specs.declared.Tree.{Tree}
use Rattle.zr_bptr.specs.declared.ObjRec.{ObjRec}
use Rattle.zr_store.specs.Store.{Stored, Swaps}
use Rattle.zr_tree.specs.Trees.{tree_at, tree_blocks, tree_leaves, tree_reach, updated, IsHeightFor, SwapsLeaves, KeepsOthers}
use Rattle.zr_objset.specs.Records.{record_of}
use Rattle.zr_txg.specs.Changes.{ObjectChange, Changes, object_in}

-- the changed object that has so many changed ones below it
abbrev pub entry : List (ℕ × ObjectChange) → ℕ → ℕ × ObjectChange
entry es i = slice_index_or es i (0, record { object = None; blocks = [] })

-- the tree blocks of an object that is there
abbrev pub object_blocks : Stored → Option ObjRec → List Bptr
object_blocks s None = []
object_blocks s (Some r) = tree_blocks s r.tree

-- those of the changed objects, as their records lead to them
abbrev pub blocks_of : Stored → List (ℕ × ObjectChange) → List Bptr
blocks_of s objects = flat_map (λ e. object_blocks s e.1.object) objects

-- those of objects with these records
abbrev pub blocks_in : Stored → List (ℕ × Option ObjRec) → List Bptr
blocks_in s records = flat_map (λ e. object_blocks s e.1) records

-- The record q is r with the changes: it has the same size, and a tree of the least height that has them.
pub record IsWritten (changes : List (ℕ × Ptr)) (old new : Stored) (r q : ObjRec) : Type 0 where
  pub size : q.units ≡ r.units
  pub height : IsHeightFor r.tree.height changes q.tree.height
  pub leaves : (index : ℕ) → tree_at new q.tree index ≡ updated changes index (tree_at old r.tree index)
  pub swaps_leaves : SwapsLeaves changes (tree_leaves old r.tree) (tree_leaves new q.tree) (tree_at old r.tree)

-- the same of an object that is there, and a dropped one has no record
abbrev pub IsObjectWritten : List (ℕ × Ptr) → Stored → Stored → Option ObjRec → Option ObjRec → Type 0
IsObjectWritten changes old new None None = Unit {0}
IsObjectWritten changes old new None (Some q) = ⊥
IsObjectWritten changes old new (Some r) None = ⊥
IsObjectWritten changes old new (Some r) (Some q) = IsWritten changes old new r q

-- an object has its changes, and the store its tree blocks in place of the old ones
pub record WritesObject (changes : List (ℕ × Ptr)) (old new : Stored) (r q : Option ObjRec) : Type 0 where
  pub written : IsObjectWritten changes old new r q
  pub swaps : Swaps old new (object_blocks old r) (object_blocks new q)

-- each changed object has its record, in order
abbrev pub AreWritten : Stored → Stored → List (ℕ × ObjectChange) → List (ℕ × Option ObjRec) → Type 0
AreWritten old new [] [] = Unit {0}
AreWritten old new [] (q ∷ qs) = ⊥
AreWritten old new (e ∷ es) [] = ⊥
AreWritten old new (e ∷ es) (q ∷ qs) = (q.0 ≡ e.0) × IsObjectWritten e.1.blocks old new e.1.object q.1 × AreWritten old new es qs

-- the changed objects have these records, and the store their tree blocks in place of the old ones
pub record WritesObjects (old new : Stored) (es : List (ℕ × ObjectChange)) (qs : List (ℕ × Option ObjRec)) : Type 0 where
  pub written : AreWritten old new es qs
  pub swaps : Swaps old new (blocks_of old es) (blocks_in new qs)

-- the tree blocks of the changed objects as the directory has them
abbrev pub blocks_now : Stored → Tree → List (ℕ × ObjectChange) → List Bptr
blocks_now s dir es = flat_map (λ e. object_blocks s (record_of s dir e.0)) es

-- The directory u has the changed objects with their changes and each other one as dir has it. The store has their tree
-- blocks and u's blocks in place of those before, and trees beside these are kept.
pub record WritesGroup (old new : Stored) (group : Changes) (dir u : Tree) : Type 0 where
  pub written : AllByRecursion (λ e. IsObjectWritten e.1.blocks old new e.1.object (record_of new u e.0)) group.objects
  pub rest : (id : ℕ) → object_in group id ≡ None → record_of new u id ≡ record_of old dir id
  pub swaps : Swaps old new (blocks_of old group.objects ++ tree_reach old dir) (blocks_now new u group.objects ++ tree_reach new u)
  pub others : KeepsOthers old new (blocks_of old group.objects ++ tree_reach old dir)
