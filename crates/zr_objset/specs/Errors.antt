-- Leaves that are outside their form, and the errors that tell of them.
use Rattle.std.specs.Prelude.{◌≡◌, ◌≢◌, ◌⊎◌, ℕ, List, All, Option, Some, None, Result, IsErrOf}
use Rattle.sha2.specs.Sha256.{sha256}
use Rattle.zr_base.specs.declared.space.Dva.{Dva}
use Rattle.zr_bptr.specs.declared.Bptr.{Bptr}
use Rattle.zr_bptr.specs.declared.Ptr.{Ptr}
use Rattle.zr_bptr.specs.declared.Ptr.TheVariants.{Hole, At}
use Rattle.zr_bptr.specs.declared.ObjRec.{ObjRec}
use Rattle.zr_bptr.specs.Spelling.{SpellsRecords}
use Rattle.zr_store.specs.declared.StoreErr.{StoreErr}
use Rattle.zr_store.specs.declared.StoreErr.TheVariants.{Malformed, Damaged, Unresolved}
use Rattle.zr_store.specs.Store.{Stored, AreStored}
use Rattle.zr_tree.specs.Trees.{IsAmong, IsSoundAt, HasBadBlock, HasDamagedBlock}
use Rattle.zr_objset.specs.Records.{records_in}

-- the bytes have the pointer's sum and are not those of sixteen records
abbrev pub IsNoLeaf : Stored → Bptr → Type 0
IsNoLeaf s b = (b.sum ≡ sha256 (s.bytes b)) × ((records : List (Option ObjRec)) → ¬ SpellsRecords (s.bytes b) records)

-- the pointer is that of a leaf of the directory, and the bytes are not those of sixteen records
abbrev pub IsBadLeaf : Stored → Bptr → Type 0
IsBadLeaf s b = (b.level ≡ 0) × IsNoLeaf s b

-- the leaf has another length than the blocks of its object
abbrev pub IsOtherSize : ℕ → Bptr → Type 0
IsOtherSize units b = b.at.len ≢ units

-- a hole, or sixteen records
abbrev pub IsRecordLeaf : Stored → Ptr → Type 0
IsRecordLeaf s Hole = Unit {0}
IsRecordLeaf s (At b) = (records : List (Option ObjRec)) × SpellsRecords (s.bytes b) records

-- sixteen records, where it is a leaf of the directory
abbrev pub IsFormed : Stored → Bptr → Type 0
IsFormed s b = b.level ≡ 0 → IsRecordLeaf s (At b)

-- from the root down each tree block of an object that is there is whole
abbrev pub IsSoundObject : Stored → Option ObjRec → Type 0
IsSoundObject s None = Unit {0}
IsSoundObject s (Some r) = IsSoundAt s r.tree.height r.tree.root

-- so are those of each object in it, where it is a leaf of the directory
abbrev pub HasSoundObjects : Stored → Bptr → Type 0
HasSoundObjects s b = b.level ≡ 0 → All (IsSoundObject s) (records_in (s.bytes b))

-- a hole, or a leaf of this length
abbrev pub IsOfSize : ℕ → Ptr → Type 0
IsOfSize units Hole = Unit {0}
IsOfSize units (At b) = b.at.len ≡ units

-- one of these leaves, with this address and this sum, is bad
pub record HasBadLeaf (Bad : Bptr → Type 0) (leaves : List Bptr) (at : Dva) (expected : List ℕ) : Type 0 where
  pub leaf : Bptr
  pub among : IsAmong leaf leaves
  pub address : leaf.at ≡ at
  pub checksum : leaf.sum ≡ expected
  pub bad : Bad leaf

-- an error that tells of a block tells of one of these blocks, or of one of these leaves that is bad, and never that
-- units are missing where the blocks are stored
pub record TellsOfLeaves {T : Type 0} (s : Stored) (pointers leaves : List Bptr) (Bad : Bptr → Type 0) (result : Result T StoreErr) : Type 0 where
  pub malformed : (at : Dva) (expected : List ℕ) → IsErrOf result (Malformed at expected) → HasBadBlock s pointers at expected ⊎ HasBadLeaf Bad leaves at expected
  pub damaged : (at : Dva) (expected found : List ℕ) → IsErrOf result (Damaged at expected found) → HasDamagedBlock s pointers at expected found
  pub resolved : (at : Dva) (expected : List ℕ) → IsErrOf result (Unresolved at expected) → ¬ AreStored pointers s
