-- A directory with changed records.
use Rattle.std.specs.Prelude.{◌≡◌, ◌/◌, ◌%◌, ◌<◌, nat_eq, if◌then◌else◌, ℕ, List, [], ◌∷◌, All, Option, None, slice_index_or}
use Rattle.std.specs.List.{flat_map, AllByRecursion}
use Rattle.zr_bptr.specs.declared.Bptr.{Bptr}
use Rattle.zr_bptr.specs.declared.Ptr.{Ptr}
use Rattle.zr_bptr.specs.declared.Ptr.TheVariants.{Hole, At}
use Rattle.zr_bptr.specs.declared.Tree.{Tree}
use Rattle.zr_bptr.specs.declared.ObjRec.{ObjRec}
use Rattle.zr_store.specs.Store.{Stored, Swaps}
use Rattle.zr_tree.specs.Trees.{own, tree_at, tree_reach, updated, IsTreeWay, KeepsOthers}
use Rattle.zr_objset.specs.Records.{records_in, record_in, record_of}
use Rattle.zr_objset.specs.Errors.{IsRecordLeaf}

-- the record of an object with the changes
abbrev pub changed : List (ℕ × Option ObjRec) → ℕ → Option ObjRec → Option ObjRec
changed [] id r = r
changed (change ∷ changes) id r = changed changes id (if nat_eq change.0 id then change.1 else r)

-- the IDs rise
abbrev pub RisesById : List (ℕ × Option ObjRec) → Type 0
RisesById [] = Unit {0}
RisesById (change ∷ changes) = AllByRecursion (λ later. change.0 < later.0) changes × RisesById changes

-- each object is one of this leaf of the directory
abbrev pub AllIn : ℕ → List (ℕ × Option ObjRec) → Type 0
AllIn place = All (λ change. change.0 / 16 ≡ place)

-- a hole, or a leaf with some object
abbrev pub IsNeeded : Stored → Ptr → Type 0
IsNeeded s Hole = Unit {0}
IsNeeded s (At b) = ¬ All (λ r. r ≡ None) (records_in (s.bytes b))

-- the leaves of the directory in which these objects are
abbrev pub leaves_of : Stored → Tree → List (ℕ × Option ObjRec) → List Bptr
leaves_of s dir changes = flat_map (λ change. own (tree_at s dir (change.0 / 16))) changes

-- the pointer p came for a leaf of these records, a hole where there is no object
pub record PutsLeaf (records : List (Option ObjRec)) (old new : Stored) (p : Ptr) : Type 0 where
  pub means : (k : ℕ) → record_in new p k ≡ slice_index_or records k None
  pub needed : IsNeeded new p
  pub swaps : Swaps old new [] (own p)

-- the pointer p came for the leaf q with the changes, and q was in its form
pub record ChangesLeaf (place : ℕ) (changes : List (ℕ × Option ObjRec)) (old new : Stored) (q p : Ptr) : Type 0 where
  pub records : (id : ℕ) → id / 16 ≡ place → record_in new p (id % 16) ≡ changed changes id (record_in old q (id % 16))
  pub needed : IsNeeded new p
  pub swaps : Swaps old new [] (own p)
  pub formed : IsRecordLeaf old q

-- the leaves `news` came for those of the directory with the changes, and what was read for them was whole
pub record PutsLeaves (dir : Tree) (changes : List (ℕ × Option ObjRec)) (old new : Stored) (news : List (ℕ × Ptr)) : Type 0 where
  pub records : (id : ℕ) → record_in new (updated news (id / 16) (tree_at old dir (id / 16))) (id % 16) ≡ changed changes id (record_of old dir id)
  pub needed : All (λ change. IsNeeded new (updated news (change.0 / 16) (tree_at old dir (change.0 / 16)))) changes
  pub swaps : Swaps old new [] (flat_map (λ leaf. own leaf.1) news)
  pub ways : All (λ change. IsTreeWay old dir (change.0 / 16)) changes
  pub formed : All (λ change. IsRecordLeaf old (tree_at old dir (change.0 / 16))) changes

-- the directory u is dir with the changes, the store has u's blocks and leaves in place of dir's, and trees beside it are
-- kept; a changed leaf without any object is a hole
pub record StoresRecords (changes : List (ℕ × Option ObjRec)) (old new : Stored) (dir u : Tree) : Type 0 where
  pub records : (id : ℕ) → record_of new u id ≡ changed changes id (record_of old dir id)
  pub needed : All (λ change. IsNeeded new (tree_at new u (change.0 / 16))) changes
  pub swaps : Swaps old new (tree_reach old dir) (tree_reach new u)
  pub others : KeepsOthers old new (tree_reach old dir)
