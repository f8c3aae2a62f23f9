-- What a tree in a store means.
use Rattle.std.specs.Prelude.{◌≡◌, ◌≢◌, ◌⊎◌, ◌/◌, ◌%◌, ◌^◌, ◌*◌, ◌-◌, ◌≤◌, nat_eq, nat_lt, if◌then◌else◌, ℕ, zero, suc, List, [], ◌∷◌, ◌++◌, ◌↔◌, slice_index_or, All, Result, IsErrOf, ◌+◌, sum_by, ◌<◌, length, min}
use Rattle.std.specs.Int.{div_ceil}
use Rattle.std.specs.List.{flat_map, AllByRecursion}
use Rattle.zr_base.specs.declared.space.Dva.{Dva}
use Rattle.zr_bptr.specs.declared.Bptr.{Bptr}
use Rattle.zr_bptr.specs.declared.Ptr.{Ptr}
use Rattle.zr_bptr.specs.declared.Ptr.TheVariants.{Hole, At}
use Rattle.zr_bptr.specs.declared.Tree.{Tree}
use Rattle.zr_bptr.specs.Spelling.{SpellsTreeBlock}
use Rattle.sha2.specs.Sha256.{sha256}
use Rattle.zr_tree.specs.Blocks.{FitsAt}
use Rattle.zr_tree.specs.Blocks.{pointers_in, IsNoBlock}
use Rattle.zr_store.specs.declared.StoreErr.{StoreErr}
use Rattle.zr_store.specs.declared.StoreErr.TheVariants.{Malformed, Damaged, Unresolved}
use Rattle.zr_store.specs.Store.{Stored, Swaps, AreStored, hits}

-- the pointers in a tree block above this level
abbrev pub kids : Stored → ℕ → Bptr → List Ptr
kids s below b = pointers_in (s.bytes b)

-- the pointer at a place, a hole where there is none
abbrev pub slot : List Ptr → ℕ → Ptr
slot pointers k = slice_index_or pointers k Hole

-- which of the 32 pointers above this level leads to a block
abbrev pub digit : ℕ → ℕ → ℕ
digit below index = index / 32 ^ below % 32

-- the leaf pointer at an index below this pointer
abbrev pub leaf_at : Stored → ℕ → Ptr → ℕ → Ptr
leaf_at s zero p index = p
leaf_at s (suc below) Hole index = Hole
leaf_at s (suc below) (At b) index = leaf_at s below (slot (kids s below b) (digit below index)) index

-- the tree blocks at and below this pointer
abbrev pub blocks : Stored → ℕ → Ptr → List Bptr
blocks s zero p = []
blocks s (suc below) Hole = []
blocks s (suc below) (At b) = b ∷ flat_map (blocks s below) (kids s below b)

-- the tree blocks and the leaves, each block before what lies below it
abbrev pub reach : Stored → ℕ → Ptr → List Bptr
reach s zero Hole = []
reach s zero (At b) = b ∷ []
reach s (suc below) Hole = []
reach s (suc below) (At b) = b ∷ flat_map (reach s below) (kids s below b)

-- the block itself
abbrev pub own : Ptr → List Bptr
own Hole = []
own (At b) = b ∷ []

-- the leaves at and below this pointer
abbrev pub leaves_below : Stored → ℕ → Ptr → List Bptr
leaves_below s zero p = own p
leaves_below s (suc below) Hole = []
leaves_below s (suc below) (At b) = flat_map (leaves_below s below) (kids s below b)

-- what a tree means: a leaf pointer at each index
abbrev pub tree_at : Stored → Tree → ℕ → Ptr
tree_at s t index = if nat_lt index (32 ^ t.height) then leaf_at s t.height t.root index else Hole

-- the same with the changes
abbrev pub updated : List (ℕ × Ptr) → ℕ → Ptr → Ptr
updated [] index p = p
updated (change ∷ changes) index p = updated changes index (if nat_eq change.0 index then change.1 else p)

-- each index lies at this place of the blocks of a level
abbrev pub AllAt : ℕ → ℕ → List (ℕ × Ptr) → Type 0
AllAt level place = All (λ change. change.0 / 32 ^ level ≡ place)

abbrev pub AreLeaves : List (ℕ × Ptr) → Type 0
AreLeaves = All (λ change. FitsAt 0 change.1)

-- each change sets a pointer of this level
abbrev pub AreOfLevel : ℕ → List (ℕ × Ptr) → Type 0
AreOfLevel level = All (λ change. FitsAt level change.1)

-- At most so many blocks of a row lie over the changes. Changes below one block have one.
abbrev pub AreRows : ℕ → List (ℕ × Ptr) → Type 0
AreRows most changes = (length changes ≤ most) ⊎ ((1 ≤ most) × AllAt 1 0 changes)

-- a block of one unit
abbrev pub IsOneUnit : Ptr → Type 0
IsOneUnit Hole = ⊥
IsOneUnit (At b) = b.at.len ≡ 1

-- each change sets such a block
abbrev pub AreUnits : List (ℕ × Ptr) → Type 0
AreUnits = All (λ change. IsOneUnit change.1)

-- the last change, if there is one, sets such a block
abbrev pub EndsInUnit : List (ℕ × Ptr) → Type 0
EndsInUnit changes = (n : ℕ) (d : ℕ × Ptr) → length changes ≡ suc n → IsOneUnit (slice_index_or changes n d).1

-- the indices rise
abbrev pub Rises : List (ℕ × Ptr) → Type 0
Rises [] = Unit {0}
Rises (change ∷ changes) = AllByRecursion (λ later. change.0 < later.0) changes × Rises changes

abbrev pub weigh : (Bptr → ℕ) → Ptr → ℕ
weigh weight Hole = 0
weigh weight (At b) = weight b

-- what the leaves at the changed indices weigh, where `at` is the leaf at an index
abbrev pub weight_at : (Bptr → ℕ) → (ℕ → Ptr) → List (ℕ × Ptr) → ℕ
weight_at weight at [] = 0
weight_at weight at (change ∷ changes) = weigh weight (at change.0) + weight_at weight at changes

-- what the changes bring
abbrev pub weight_of : (Bptr → ℕ) → List (ℕ × Ptr) → ℕ
weight_of weight [] = 0
weight_of weight (change ∷ changes) = weigh weight change.1 + weight_of weight changes

-- The leaves are those before, without those at the changed indices and with those that the changes bring.
pub record SwapsLeaves (changes : List (ℕ × Ptr)) (old new : List Bptr) (at : ℕ → Ptr) : Type 0 where
  pub stored : (weight : Bptr → ℕ) → sum_by weight new + weight_at weight at changes ≡ sum_by weight old + weight_of weight changes

-- the block has its sum, and is a tree block of its level
pub record IsWhole (s : Stored) (b : Bptr) : Type 0 where
  pub checksum : b.sum ≡ sha256 (s.bytes b)
  pub block : (pointers : List Ptr) × SpellsTreeBlock (s.bytes b) (b.level - 1) b.fill pointers

abbrev pub IsWholeAt : Stored → Ptr → Type 0
IsWholeAt s Hole = Unit {0}
IsWholeAt s (At b) = IsWhole s b

-- the tree blocks on the way to an index are whole
abbrev pub IsWay : Stored → ℕ → Ptr → ℕ → Type 0
IsWay s zero p index = Unit {0}
IsWay s (suc below) Hole index = Unit {0}
IsWay s (suc below) (At b) index = IsWhole s b × IsWay s below (slot (kids s below b) (digit below index)) index

-- the tree blocks on the way to an index are whole, where the tree has that index
abbrev pub IsTreeWay : Stored → Tree → ℕ → Type 0
IsTreeWay s t index = index < 32 ^ t.height → IsWay s t.height t.root index

-- the 32 pointers of the block, all holes for a hole
pub record IsOpen (s : Stored) (below : ℕ) (p : Ptr) (pointers : List Ptr) : Type 0 where
  pub leaves : (index : ℕ) → leaf_at s (suc below) p index ≡ leaf_at s below (slot pointers (digit below index)) index
  pub tree_blocks : blocks s (suc below) p ≡ own p ++ flat_map (blocks s below) pointers
  pub all_leaves : leaves_below s (suc below) p ≡ flat_map (leaves_below s below) pointers
  pub way : (index : ℕ) → IsWay s (suc below) p index ↔ (IsWholeAt s p × IsWay s below (slot pointers (digit below index)) index)

-- the block is one of these
abbrev pub IsAmong : Bptr → List Bptr → Type 0
IsAmong b pointers = (weight : Bptr → ℕ) → weight b ≤ sum_by weight pointers

-- each block that came is one of those that left, with the bytes that it had, or is whole
pub record Brings (old new : Stored) (out into : List Bptr) : Type 0 where
  pub each : (b : Bptr) → IsAmong b into → (IsAmong b out × (new.bytes b ≡ old.bytes b)) ⊎ IsWhole new b

-- from here down each pointer is lawful and of its level, and each tree block is whole
abbrev pub IsSoundAt : Stored → ℕ → Ptr → Type 0
IsSoundAt s zero p = FitsAt 0 p
IsSoundAt s (suc below) Hole = Unit {0}
IsSoundAt s (suc below) (At b) = FitsAt (suc below) (At b) × IsWhole s b × All (IsSoundAt s below) (kids s below b)

-- the tree blocks of a tree
abbrev pub tree_blocks : Stored → Tree → List Bptr
tree_blocks s t = blocks s t.height t.root

-- the leaves of a tree
abbrev pub tree_leaves : Stored → Tree → List Bptr
tree_leaves s t = leaves_below s t.height t.root

-- its blocks, the leaves among them
abbrev pub tree_reach : Stored → Tree → List Bptr
tree_reach s t = reach s t.height t.root

-- the pointer p came for a block of these pointers, a hole where all are holes
pub record PutsBlock (pointers : List Ptr) (old new : Stored) (p : Ptr) : Type 0 where
  pub opens : IsOpen new 0 p pointers
  pub whole : IsWholeAt new p
  pub swaps : Swaps old new [] (own p)

-- the pointers of the block at a place of its row, with the changes
pub record SetsPointers (place : ℕ) (changes : List (ℕ × Ptr)) (qs ps : List Ptr) : Type 0 where
  pub slots : (index : ℕ) → index / 32 ≡ place → slot ps (index % 32) ≡ updated changes index (slot qs (index % 32))
  pub swaps_leaves : Rises changes → SwapsLeaves changes (flat_map own qs) (flat_map own ps) (λ index. slot qs (index % 32))

-- what is stored stays, with its bytes
abbrev pub Keeps : Stored → Stored → Type 0
Keeps old new = (b : Bptr) → 0 < hits old.pointers b.at → new.bytes b ≡ old.bytes b

-- what the leaves below a block of the lowest level weigh
abbrev pub weight_below : Stored → (Bptr → ℕ) → Bptr → ℕ
weight_below s weight b = sum_by weight (flat_map own (kids s 0 b))

-- The pointer p came for the block at a place of a row, with the changes made. The tree t has the row's blocks as its
-- leaves. The block that was there was whole, and the list of what is to be given back has it now.
pub record PutsChanged (place : ℕ) (changes : List (ℕ × Ptr)) (old new : Stored) (t : Tree) (p : Ptr) (before after : List Bptr) : Type 0 where
  pub leaves : (index : ℕ) → index / 32 ≡ place → leaf_at new 1 p index ≡ updated changes index (leaf_at old 1 (tree_at old t place) index)
  pub swaps_leaves : Rises changes → SwapsLeaves changes (leaves_below old 1 (tree_at old t place)) (leaves_below new 1 p) (leaf_at old 1 (tree_at old t place))
  pub whole : IsWholeAt new p
  pub way : IsTreeWay old t place
  pub was_whole : IsWholeAt old (tree_at old t place)
  pub swaps : Swaps old new [] (own p)
  pub gone : (weight : Bptr → ℕ) → sum_by weight after ≡ sum_by weight before + weigh weight (tree_at old t place)

-- The same for each block of the row that lies over a change: `row` has their places and the new pointers. Nothing has
-- left the store.
pub record PutsRow (changes row : List (ℕ × Ptr)) (old new : Stored) (t : Tree) (before after : List Bptr) : Type 0 where
  pub leaves : (index : ℕ) → leaf_at new 1 (updated row (index / 32) (tree_at old t (index / 32))) index ≡ updated changes index (leaf_at old 1 (tree_at old t (index / 32)) index)
  pub swaps_leaves : (weight : Bptr → ℕ) → weight_of (weight_below new weight) row + weight_at weight (λ index. leaf_at old 1 (tree_at old t (index / 32)) index) changes ≡ weight_at (weight_below old weight) (tree_at old t) row + weight_of weight changes
  pub stored : (weight : Bptr → ℕ) → sum_by weight new.pointers ≡ sum_by weight old.pointers + weight_of weight row
  pub kept : Keeps old new
  pub gone : (weight : Bptr → ℕ) → sum_by weight after ≡ sum_by weight before + weight_at weight (tree_at old t) row
  pub whole : All (λ change. IsWholeAt new change.1) row
  pub ways : All (λ change. IsTreeWay old t (change.0 / 32) × IsWholeAt old (tree_at old t (change.0 / 32))) changes

-- The pointer p stands for the tree at this height, with the changes made. Nothing has left the store: the list of what
-- is to be given back has grown by the blocks of the tree that are not below p.
pub record PutsTree (height : ℕ) (changes : List (ℕ × Ptr)) (old new : Stored) (t : Tree) (p : Ptr) (before after : List Bptr) : Type 0 where
  pub leaves : (index : ℕ) → index / 32 ^ height ≡ 0 → leaf_at new height p index ≡ updated changes index (tree_at old t index)
  pub stored : (weight : Bptr → ℕ) → sum_by weight new.pointers + sum_by weight (tree_blocks old t) + sum_by weight before ≡ sum_by weight old.pointers + sum_by weight (blocks new height p) + sum_by weight after
  pub grows : (weight : Bptr → ℕ) → sum_by weight old.pointers ≤ sum_by weight new.pointers
  pub kept : Keeps old new
  pub brings : Brings old new (tree_blocks old t) (blocks new height p)
  pub swaps_leaves : SwapsLeaves changes (tree_leaves old t) (leaves_below new height p) (tree_at old t)
  pub ways : All (λ change. IsTreeWay old t change.0) changes

-- The changes, and in front of them the root at the first place, where they do not set it.
abbrev pub HasRoot : Ptr → List (ℕ × Ptr) → List (ℕ × Ptr) → Type 0
HasRoot root [] all = all ≡ (0, root) ∷ []
HasRoot root (change ∷ changes) all = ((change.0 ≡ 0) × (all ≡ change ∷ changes)) ⊎ ((change.0 ≢ 0) × (all ≡ (0, root) ∷ change ∷ changes))

-- a block of this level in place of the tree, whose leaves have the changes
pub record Raises (level : ℕ) (changes : List (ℕ × Ptr)) (old new : Stored) (t : Tree) (p : Ptr) : Type 0 where
  pub leaves : (index : ℕ) → index / 32 ^ level ≡ 0 → leaf_at new level p index ≡ updated changes index (tree_at old t index)
  pub swaps : Swaps old new (tree_blocks old t) (blocks new level p)
  pub brings : Brings old new (tree_blocks old t) (blocks new level p)
  pub swaps_leaves : SwapsLeaves changes (tree_leaves old t) (leaves_below new level p) (tree_at old t)
  pub ways : All (λ change. IsTreeWay old t change.0) changes

-- the tree means what it meant
pub record KeepsTree (old new : Stored) (t : Tree) : Type 0 where
  pub same_blocks : tree_blocks new t ≡ tree_blocks old t
  pub same_reach : tree_reach new t ≡ tree_reach old t
  pub leaves : (index : ℕ) → tree_at new t index ≡ tree_at old t index

-- so does each tree whose blocks are stored beside those that were given back
abbrev pub KeepsOthers : Stored → Stored → List Bptr → Type 0
KeepsOthers old new out = (other : Tree) → AreStored (out ++ tree_blocks old other) old → KeepsTree old new other

-- the tree u is t with the changes, the store has u's tree blocks in place of t's, and trees beside it are kept
pub record SetsTree (changes : List (ℕ × Ptr)) (old new : Stored) (t u : Tree) : Type 0 where
  pub leaves : (index : ℕ) → tree_at new u index ≡ updated changes index (tree_at old t index)
  pub swaps : Swaps old new (tree_blocks old t) (tree_blocks new u)
  pub brings : Brings old new (tree_blocks old t) (tree_blocks new u)
  pub swaps_leaves : SwapsLeaves changes (tree_leaves old t) (tree_leaves new u) (tree_at old t)
  pub others : KeepsOthers old new (tree_blocks old t)

-- So many blocks are put at most by the rows of a tree of one height that becomes one of another: one for each change and
-- level, one more above what the tree had, and one at the top.
abbrev pub row_puts : ℕ → ℕ → ℕ → ℕ
row_puts old zero changes = 0
row_puts old (suc below) changes = below * changes + (if nat_lt old (suc below) then suc below - old else min 1 changes)

-- at most so many blocks are put where a tree of the one height becomes one of the other by so many changes: the way to
-- each change, and where it grows also the way to what it was
abbrev pub most_puts : ℕ → ℕ → ℕ → ℕ
most_puts old new changes = if nat_eq old new then new * changes else (new - 1) * changes + (new - old)

-- and at most so many are given back
abbrev pub most_frees : ℕ → ℕ → ℕ → ℕ
most_frees old new changes = if nat_eq old new then new * changes else (new - 1) * changes

-- the changes lie below this index
abbrev pub AreBelow : ℕ → List (ℕ × Ptr) → Type 0
AreBelow n = All (λ change. change.0 < n)

-- The tree blocks of so many levels over n leaves. A tree of n leaves and of the height that they need has these, and a
-- change below the index n puts some of them.
abbrev pub blocks_over : ℕ → ℕ → ℕ
blocks_over zero n = 0
blocks_over (suc levels) n = div_ceil n 32 + blocks_over levels (div_ceil n 32)

-- the changes lie below a block of this level, but for holes
abbrev pub HasRoom : ℕ → List (ℕ × Ptr) → Type 0
HasRoom level = All (λ change. (change.1 ≡ Hole) ⊎ (change.0 / 32 ^ level ≡ 0))

-- the least height from this one on that has room for the changes
pub record IsHeightFor (from : ℕ) (changes : List (ℕ × Ptr)) (height : ℕ) : Type 0 where
  pub grows : from ≤ height
  pub room : HasRoom height changes
  pub least : (lower : ℕ) → from ≤ lower → HasRoom lower changes → height ≤ lower

-- a front of these was marked
pub record MarksFront (old new pointers : List Bptr) : Type 0 where
  pub front : List Bptr
  pub rest : List Bptr
  pub marked : new ≡ old ++ front
  pub parts : front ++ rest ≡ pointers

-- one of these blocks, with this address and this sum, has its sum and is no tree block of its level
pub record HasBadBlock (s : Stored) (pointers : List Bptr) (at : Dva) (expected : List ℕ) : Type 0 where
  pub block : Bptr
  pub among : IsAmong block pointers
  pub address : block.at ≡ at
  pub checksum : block.sum ≡ expected
  pub tall : 0 < block.level
  pub right : block.sum ≡ sha256 (s.bytes block)
  pub bad : IsNoBlock (block.level - 1) block.fill (s.bytes block)

-- one of these blocks, with this address and this sum, has the bytes of another sum
pub record HasDamagedBlock (s : Stored) (pointers : List Bptr) (at : Dva) (expected found : List ℕ) : Type 0 where
  pub block : Bptr
  pub among : IsAmong block pointers
  pub address : block.at ≡ at
  pub checksum : block.sum ≡ expected
  pub found_is : found ≡ sha256 (s.bytes block)
  pub differs : expected ≢ found

-- an error that tells of a block tells of one of these, and never that units are missing where these are stored
pub record TellsOf {T : Type 0} (s : Stored) (pointers : List Bptr) (result : Result T StoreErr) : Type 0 where
  pub malformed : (at : Dva) (expected : List ℕ) → IsErrOf result (Malformed at expected) → HasBadBlock s pointers at expected
  pub damaged : (at : Dva) (expected found : List ℕ) → IsErrOf result (Damaged at expected found) → HasDamagedBlock s pointers at expected found
  pub resolved : (at : Dva) (expected : List ℕ) → IsErrOf result (Unresolved at expected) → ¬ AreStored pointers s
