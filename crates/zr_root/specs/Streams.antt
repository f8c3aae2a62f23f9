-- What stands in the leaves of a tree.
use Rattle.std.specs.Prelude.{◌≡◌, ℕ, ◌+◌, ◌-◌, ◌*◌, ◌/◌, ◌^◌, ◌<◌, List, [], ◌∷◌, ◌++◌, length, map, sum_by, All}
use Rattle.std.specs.List.{flat_map}
use Rattle.std.specs.Int.{div_ceil}
use Rattle.zr_base.specs.Trees.{IsHeight}
use Rattle.zr_base.specs.Words.{words, zeros}
use Rattle.zr_bptr.specs.declared.Bptr.{Bptr}
use Rattle.zr_bptr.specs.declared.Ptr.{Ptr}
use Rattle.zr_bptr.specs.declared.Ptr.TheVariants.{Hole, At}
use Rattle.zr_bptr.specs.declared.Tree.{Tree}
use Rattle.zr_bptr.specs.Spelling.{fill_of}
use Rattle.sha2.specs.Sha256.{sha256}
use Rattle.zr_store.specs.Store.{Stored, Swaps, hits}
use Rattle.zr_meta.specs.declared.Stream.{Stream}
use Rattle.zr_tree.specs.Blocks.{FitsAt}
use Rattle.zr_tree.specs.Trees.{kids, slot, leaf_at, leaves_below, blocks, IsAmong, IsWhole, tree_at, tree_blocks, tree_leaves, tree_reach}

-- each of these blocks has its sum, and is a tree block of its level
abbrev pub AreWhole : Stored → List Bptr → Type 0
AreWhole s bs = (b : Bptr) → IsAmong b bs → IsWhole s b

-- the block has its sum
abbrev pub HasSum : Stored → Bptr → Type 0
HasSum s b = b.sum ≡ sha256 (s.bytes b)

-- a block of one unit of this level
abbrev pub IsUnitAt : ℕ → Bptr → Type 0
IsUnitAt level b = FitsAt level (At b) × (b.at.len ≡ 1)

-- the root of a tree with leaves
abbrev pub IsRootOf : ℕ → Ptr → Type 0
IsRootOf height Hole = ⊥
IsRootOf height (At b) = IsUnitAt height b

-- the tree with this root that has so many bytes
abbrev pub IsTreeFor : ℕ → Ptr → Tree → Type 0
IsTreeFor len root t = (t.root ≡ root) × IsHeight (div_ceil len 4096) t.height

-- these and no others are the leaves of the tree, from index 0 on, and each block above them is a tree block
pub record HasLeaves (s : Stored) (t : Tree) (leaves : List Bptr) : Type 0 where
  pub places : (index : ℕ) → tree_at s t index ≡ slot (map At leaves) index
  pub units : All (IsUnitAt 0) leaves
  pub whole : AreWhole s (tree_blocks s t)

-- the bytes stand in the leaves of the tree, 4,096 in each, and zeros behind the last of them
pub record HasBytes (s : Stored) (t : Tree) (bytes : List ℕ) : Type 0 where
  pub leaves : List Bptr
  pub are_leaves : HasLeaves s t leaves
  pub count : length leaves ≡ div_ceil (length bytes) 4096
  pub long : All (λ b. length (s.bytes b) ≡ 4096) leaves
  pub sums : All (HasSum s) leaves
  pub spelling : flat_map s.bytes leaves ≡ bytes ++ zeros (4096 * length leaves - length bytes)

-- the blocks of the tree came, and the bytes stand in it
pub record StoresBytes (old new : Stored) (t : Tree) (bytes : List ℕ) : Type 0 where
  pub came : Swaps old new [] (tree_reach new t)
  pub stands : HasBytes new t bytes

-- the words stand in the leaves of a stream, 512 in each, and zeros behind the last of them
pub record HasWords (s : Stored) (stream : Stream) (ns : List ℕ) : Type 0 where
  pub count : length ns ≡ stream.words
  pub bytes : HasBytes s stream.tree (words ns)

-- the blocks of the stream came, and the words stand in it
pub record StoresWords (old new : Stored) (stream : Stream) (ns : List ℕ) : Type 0 where
  pub came : Swaps old new [] (tree_reach new stream.tree)
  pub stands : HasWords new stream ns

-- pointers of this level that make a tree block
pub record IsGroup (level : ℕ) (pointers : List Ptr) : Type 0 where
  pub fit : All (FitsAt level) pointers
  pub some : 0 < sum_by fill_of pointers

-- the block came, and has these pointers
pub record PutsBlock (below : ℕ) (pointers : List Ptr) (old new : Stored) (b : Bptr) : Type 0 where
  pub came : Swaps old new [] (b ∷ [])
  pub pointers_are : kids new below b ≡ pointers
  pub whole : IsWhole new b

-- the blocks came, and have these pointers
pub record PutsBlocks (below : ℕ) (pieces : List (List Ptr)) (old new : Stored) (tops : List Bptr) : Type 0 where
  pub came : Swaps old new [] tops
  pub pointers : map (kids new below) tops ≡ pieces
  pub whole : All (IsWhole new) tops

-- the leaves came, and have these bytes
pub record PutsLeaves (pieces : List (List ℕ)) (old new : Stored) (leaves : List Bptr) : Type 0 where
  pub came : Swaps old new [] leaves
  pub bytes : map new.bytes leaves ≡ pieces
  pub sums : All (HasSum new) leaves

-- a tree was put over these blocks of a level, which stayed as they were
pub record Joins (level : ℕ) (bs : List Bptr) (old new : Stored) (t : Tree) : Type 0 where
  pub places : (index : ℕ) → tree_at new t index ≡ leaf_at old level (slot (map At bs) (index / 32 ^ level)) index
  pub stored : (weight : Bptr → ℕ) → sum_by weight new.pointers + sum_by weight (flat_map (blocks old level) (map At bs)) ≡ sum_by weight old.pointers + sum_by weight (tree_blocks new t)
  pub kept : (b : Bptr) → 0 < hits old.pointers b.at → new.bytes b ≡ old.bytes b
  pub leaves : tree_leaves new t ≡ flat_map (leaves_below old level) (map At bs)
  pub whole : AreWhole old (flat_map (blocks old level) (map At bs)) → AreWhole new (tree_blocks new t)
