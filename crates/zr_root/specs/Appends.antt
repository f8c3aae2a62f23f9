-- What appending to a stream leaves.
use Rattle.std.specs.Prelude.{◌≡◌, ℕ, ◌+◌, ◌-◌, ◌*◌, ◌/◌, ◌%◌, ◌<◌, List, [], ◌∷◌, ◌++◌, length, drop, All, Result, IsErrOf}
use Rattle.std.specs.List.{flat_map}
use Rattle.std.specs.Int.{div_ceil}
use Rattle.zr_base.specs.declared.space.Dva.{Dva}
use Rattle.zr_base.specs.Words.{words, zeros}
use Rattle.zr_bptr.specs.declared.Bptr.{Bptr}
use Rattle.zr_bptr.specs.declared.Ptr.{Ptr}
use Rattle.zr_bptr.specs.declared.Ptr.TheVariants.{Hole, At}
use Rattle.zr_store.specs.Store.{Stored, Swaps, AreStored}
use Rattle.zr_store.specs.declared.StoreErr.{StoreErr}
use Rattle.zr_store.specs.declared.StoreErr.TheVariants.{Malformed, Damaged, Unresolved}
use Rattle.zr_meta.specs.declared.Stream.{Stream}
use Rattle.zr_tree.specs.Trees.{tree_at, tree_reach, IsAmong, HasDamagedBlock}
use Rattle.zr_root.specs.Streams.{HasWords, HasSum}

-- each of these leaves at its index, the first one at this
abbrev pub changes_from : ℕ → List Bptr → List (ℕ × Ptr)
changes_from first [] = []
changes_from first (b ∷ bs) = (first, At b) ∷ changes_from (first + 1) bs

-- how many leaves are written: for the words in the last leaf, where it is not full, and those that are added
abbrev pub leaves_anew : ℕ → ℕ → ℕ
leaves_anew words added = div_ceil (words % 512 + added) 512

-- The words stand behind those that stood in the stream, each full leaf is where it was, and the blocks of the tree
-- are there in place of those of the tree before.
pub record Appends (old new : Stored) (stream now : Stream) (ns added : List ℕ) : Type 0 where
  pub stands : HasWords new now (ns ++ added)
  pub full : (index : ℕ) → index < stream.words / 512 → tree_at new now.tree index ≡ tree_at old stream.tree index
  pub swaps : Swaps old new (tree_reach old stream.tree) (tree_reach new now.tree)

-- the leaf at the place of the next word, a hole where the last leaf is full, and the bytes of the words in it
pub record IsTail (s : Stored) (stream : Stream) (ns : List ℕ) (leaf : Ptr) (bytes : List ℕ) : Type 0 where
  pub leaf_is : leaf ≡ tree_at s stream.tree (stream.words / 512)
  pub bytes_are : bytes ≡ words (drop (512 * (stream.words / 512)) ns)

-- what stands at the place of the next word, where a last leaf has so many bytes of words: no leaf where it has none, or
-- a whole leaf with zeros behind them
abbrev pub IsLastLeaf : Stored → ℕ → Ptr → Type 0
IsLastLeaf s len Hole = len ≡ 0
IsLastLeaf s len (At b) = HasSum s b × (length (s.bytes b) ≡ 4096) × (drop len (s.bytes b) ≡ zeros (4096 - len))

-- the leaves came, and have these bytes, with zeros behind them
pub record PutsBytes (bytes : List ℕ) (old new : Stored) (leaves : List Bptr) : Type 0 where
  pub came : Swaps old new [] leaves
  pub long : All (λ b. length (new.bytes b) ≡ 4096) leaves
  pub sums : All (HasSum new) leaves
  pub spelling : flat_map new.bytes leaves ≡ bytes ++ zeros (4096 * length leaves - length bytes)

-- no list of words stands in the stream
abbrev pub HasNoWords : Stored → Stream → Type 0
HasNoWords s stream = (ns : List ℕ) → ¬ HasWords s stream ns

-- one of these blocks has this address and this sum
pub record IsToldOf (bs : List Bptr) (at : Dva) (expected : List ℕ) : Type 0 where
  pub block : Bptr
  pub among : IsAmong block bs
  pub address : block.at ≡ at
  pub checksum : block.sum ≡ expected

-- An error that tells of a block tells of one of the stream, in which then no words stand, and never that units are
-- missing where its blocks are stored.
pub record TellsOfStream {T : Type 0} (s : Stored) (stream : Stream) (result : Result T StoreErr) : Type 0 where
  pub malformed : (at : Dva) (expected : List ℕ) → IsErrOf result (Malformed at expected) → IsToldOf (tree_reach s stream.tree) at expected × HasNoWords s stream
  pub damaged : (at : Dva) (expected found : List ℕ) → IsErrOf result (Damaged at expected found) → HasDamagedBlock s (tree_reach s stream.tree) at expected found × HasNoWords s stream
  pub resolved : (at : Dva) (expected : List ℕ) → IsErrOf result (Unresolved at expected) → ¬ AreStored (tree_reach s stream.tree) s
