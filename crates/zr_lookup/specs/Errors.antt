-- Blocks of objects that are outside their form, and the errors that tell of them.
use Rattle.std.specs.Prelude.{◌≡◌, ◌≢◌, ◌⊎◌, ℕ, ◌*◌, List, length, Result, IsErrOf}
use Rattle.sha2.specs.Sha256.{sha256}
use Rattle.zr_base.specs.declared.space.Dva.{Dva}
use Rattle.zr_bptr.specs.declared.Bptr.{Bptr}
use Rattle.zr_bptr.specs.declared.Ptr.{Ptr}
use Rattle.zr_bptr.specs.declared.Ptr.TheVariants.{Hole, At}
use Rattle.zr_bptr.specs.declared.ObjRec.{ObjRec}
use Rattle.zr_store.specs.declared.StoreErr.{StoreErr}
use Rattle.zr_store.specs.declared.StoreErr.TheVariants.{Malformed, Damaged, Unresolved}
use Rattle.zr_store.specs.Store.{Stored, AreStored}
use Rattle.zr_tree.specs.Trees.{own, tree_blocks, HasBadBlock, HasDamagedBlock}
use Rattle.zr_objset.specs.Errors.{HasBadLeaf}

-- the leaf, or what stands there, has another length than the blocks of its object
abbrev pub IsOtherBlock : Stored → ℕ → Bptr → Type 0
IsOtherBlock s units b = (b.at.len ≢ units) ⊎ (length (s.bytes b) ≢ 4096 * units)

-- the block has its sum, and the length of the blocks of its object
pub record IsSoundBlock (s : Stored) (units : ℕ) (b : Bptr) : Type 0 where
  pub checksum : b.sum ≡ sha256 (s.bytes b)
  pub len : b.at.len ≡ units
  pub size : length (s.bytes b) ≡ 4096 * units

-- a hole, or such a block
abbrev pub IsSoundPointer : Stored → ℕ → Ptr → Type 0
IsSoundPointer s units Hole = Unit {0}
IsSoundPointer s units (At b) = IsSoundBlock s units b

-- An error that tells of a block tells of one of the object's tree blocks, or of a block with an index that is needed,
-- and never that units are missing where these are stored.
pub record TellsOfObject {T : Type 0} (s : Stored) (at : ℕ → Ptr) (r : ObjRec) (IsNeeded : ℕ → Type 0) (result : Result T StoreErr) : Type 0 where
  pub malformed : (a : Dva) (expected : List ℕ) → IsErrOf result (Malformed a expected) → HasBadBlock s (tree_blocks s r.tree) a expected ⊎ ((index : ℕ) × IsNeeded index × HasBadLeaf (IsOtherBlock s r.units) (own (at index)) a expected)
  pub damaged : (a : Dva) (expected found : List ℕ) → IsErrOf result (Damaged a expected found) → HasDamagedBlock s (tree_blocks s r.tree) a expected found ⊎ ((index : ℕ) × IsNeeded index × HasDamagedBlock s (own (at index)) a expected found)
  pub resolved : (a : Dva) (expected : List ℕ) → IsErrOf result (Unresolved a expected) → AreStored (tree_blocks s r.tree) s → ((index : ℕ) → IsNeeded index → AreStored (own (at index)) s) → ⊥
