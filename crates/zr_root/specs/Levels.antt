-- The levels of a tree that is read from its root down, and what an error tells.
use Rattle.std.specs.Prelude.{◌≡◌, ℕ, ◌+◌, ◌-◌, ◌*◌, ◌/◌, ◌^◌, ◌<◌, ◌≤◌, List, ◌++◌, length, map, replicate, sum_by, All, Result, IsErrOf}
use Rattle.std.specs.List.{flat_map}
use Rattle.zr_base.specs.declared.space.Dva.{Dva}
use Rattle.zr_base.specs.Trees.{tree_units}
use Rattle.zr_bptr.specs.declared.Bptr.{Bptr}
use Rattle.zr_bptr.specs.declared.Ptr.{Ptr}
use Rattle.zr_bptr.specs.declared.Ptr.TheVariants.{Hole, At}
use Rattle.zr_bptr.specs.declared.Tree.{Tree}
use Rattle.zr_store.specs.Store.{Stored, AreStored}
use Rattle.zr_store.specs.declared.StoreErr.{StoreErr}
use Rattle.zr_store.specs.declared.StoreErr.TheVariants.{Malformed, Damaged, Unresolved}
use Rattle.zr_tree.specs.Trees.{kids, slot, leaf_at, leaves_below, blocks, tree_at, tree_blocks, tree_leaves, IsAmong, IsWhole, HasDamagedBlock}
use Rattle.zr_root.specs.Streams.{AreWhole, IsUnitAt, HasSum}

-- these are the blocks of a level of the tree, in order
pub record IsLevel (s : Stored) (t : Tree) (level : ℕ) (bs : List Bptr) : Type 0 where
  pub units : All (IsUnitAt level) bs
  pub places : (index : ℕ) → tree_at s t index ≡ leaf_at s level (slot (map At bs) (index / 32 ^ level)) index
  pub leaves : tree_leaves s t ≡ flat_map (leaves_below s level) (map At bs)
  pub within : (weight : Bptr → ℕ) → sum_by weight (flat_map (blocks s level) (map At bs)) ≤ sum_by weight (tree_blocks s t)
  pub whole : AreWhole s (flat_map (blocks s level) (map At bs)) → AreWhole s (tree_blocks s t)
  pub number : length (tree_blocks s t) + length bs ≡ length (flat_map (blocks s level) (map At bs)) + tree_units (length bs)

-- the blocks above this level are tree blocks with these pointers, and holes behind them
pub record HavePointers (s : Stored) (level : ℕ) (tops bs : List Bptr) : Type 0 where
  pub pointers : flat_map (kids s level) tops ≡ map At bs ++ replicate (32 * length tops - length bs) Hole
  pub units : All (IsUnitAt level) bs
  pub whole : All (IsWhole s) tops

-- one of these blocks has this address and this sum, its bytes have that sum, and it is outside its form
pub record HasBlock (s : Stored) (bs : List Bptr) (IsOutside : Bptr → Type 0) (at : Dva) (expected : List ℕ) : Type 0 where
  pub block : Bptr
  pub among : IsAmong block bs
  pub address : block.at ≡ at
  pub checksum : block.sum ≡ expected
  pub sum : HasSum s block
  pub outside : IsOutside block

-- An error that tells of a block tells of one of these: Malformed only where it has its sum and is outside its form,
-- and never that units are missing where these are stored.
pub record TellsOfForm {T : Type 0} (s : Stored) (bs : List Bptr) (IsOutside : Bptr → Type 0) (result : Result T StoreErr) : Type 0 where
  pub malformed : (at : Dva) (expected : List ℕ) → IsErrOf result (Malformed at expected) → HasBlock s bs IsOutside at expected
  pub damaged : (at : Dva) (expected found : List ℕ) → IsErrOf result (Damaged at expected found) → HasDamagedBlock s bs at expected found
  pub resolved : (at : Dva) (expected : List ℕ) → IsErrOf result (Unresolved at expected) → ¬ AreStored bs s

-- the first so many pointers are blocks of one unit, and the others holes
abbrev pub IsUnit : Ptr → Type 0
IsUnit Hole = ⊥
IsUnit (At b) = b.at.len ≡ 1

pub record IsCut (n : ℕ) (pointers : List Ptr) : Type 0 where
  pub front : (j : ℕ) → j < n → IsUnit (slot pointers j)
  pub rest : (j : ℕ) → n ≤ j → slot pointers j ≡ Hole

-- the pointers of these tree blocks
pub record ReadsPointers (s : Stored) (below : ℕ) (tops : List Bptr) (pointers : List Ptr) : Type 0 where
  pub pointers_are : pointers ≡ flat_map (kids s below) tops
  pub whole : All (IsWhole s) tops

-- the bytes of these leaves
pub record ReadsLeaves (s : Stored) (leaves : List Bptr) (bytes : List ℕ) : Type 0 where
  pub bytes_are : bytes ≡ flat_map s.bytes leaves
  pub long : All (λ b. length (s.bytes b) ≡ 4096) leaves
  pub sums : All (HasSum s) leaves
