-- What a line does to the blocks of one object and to the open group.
use Rattle.std.specs.Prelude.{◌≡◌, ◌≢◌, ℕ, ◌+◌, ◌≤◌, List, Some}
use Rattle.std.specs.FinMap as map
use Rattle.zr_model.specs.Objects.{Object, Objects}
use Rattle.std.specs.List.{sum_by}
use Rattle.zr_bptr.specs.declared.Bptr.{Bptr}
use Rattle.zr_bptr.specs.declared.Ptr.TheVariants.{Hole}
use Rattle.zr_bptr.specs.declared.Tree.{Tree}
use Rattle.zr_store.specs.Store.{Stored, Swaps, IsOnce}
use Rattle.zr_txg.specs.Changes.{object_in, change_in}
use Rattle.zr_lookup.specs.Objects.{record_now}
use Rattle.zr_moves.specs.Account.{Account}
use Rattle.zr_held.specs.Held.{AreBlocksNow}

-- the directory is the same, and so is what the group has of every other object
pub record IsOtherGroup (id : ℕ) (old new : Account) : Type 0 where
  pub dir : new.dir ≡ old.dir
  pub records : (other : ℕ) → id ≢ other → object_in new.changes other ≡ object_in old.changes other
  pub blocks : (other : ℕ) → id ≢ other → (i : ℕ) → change_in new.changes other i ≡ change_in old.changes other i

-- Some of the object's blocks went and others came, and all that it has now are these.
pub record ChangesBlocks (s n : Stored) (new : Account) (id : ℕ) (had has out into : List Bptr) : Type 0 where
  pub swaps : Swaps s n out into
  pub among : (weight : Bptr → ℕ) → sum_by weight out ≤ sum_by weight had
  pub balance : (weight : Bptr → ℕ) → sum_by weight has + sum_by weight out ≡ sum_by weight had + sum_by weight into
  pub now : AreBlocksNow n new.changes id (record_now n new.dir new.changes id) has
  pub once : IsOnce n

-- the object is there, and this holds of it
abbrev pub IsObjectOf : Objects → ℕ → (Object → Type 0) → Type 0
IsObjectOf objects id Is = (o : Object) × (map.get objects id ≡ Some o) × Is o

-- a tree without blocks
abbrev pub no_tree : Tree
no_tree = record { root = Hole; height = 0 }
