-- Objects as the open group has them: what it has changed, and the directory of the root for all else.
use Rattle.std.specs.Prelude.{◌≡◌, ℕ, ◌+◌, ◌*◌, ◌/◌, ◌%◌, ◌<◌, ◌++◌, ◌==◌, not, List, [], map, nat_lt, slice_index, if◌then◌else◌, unwrap_or, Option, Some, None}
use Rattle.std.specs.List.{list_any, flat_map}
use Rattle.sha2.specs.Sha256.{sha256}
use Rattle.zr_base.specs.Words.{word}
use Rattle.zr_bptr.specs.declared.Bptr.{Bptr}
use Rattle.zr_bptr.specs.declared.Ptr.{Ptr}
use Rattle.zr_bptr.specs.declared.Ptr.TheVariants.{Hole, At}
use Rattle.zr_bptr.specs.declared.Tree.{Tree}
use Rattle.zr_bptr.specs.declared.ObjRec.{ObjRec}
use Rattle.zr_store.specs.Store.{Stored}
use Rattle.zr_tree.specs.Trees.{tree_at, tree_blocks}
use Rattle.zr_objset.specs.Records.{record_of, bytes_of}
use Rattle.zr_txg.specs.Tables.{IsRising, value_at}
use Rattle.zr_txg.specs.Changes.{Changes, object_in, change_in}

-- the record of an object, none where there is no such object
abbrev pub record_now : Stored → Tree → Changes → ℕ → Option ObjRec
record_now s dir g id = if nat_lt id 65536 then unwrap_or (object_in g id) (record_of s dir id) else None

-- the pointer to an object's block
abbrev pub pointer_now : Stored → Changes → ℕ → ObjRec → ℕ → Ptr
pointer_now s g id r index = unwrap_or (change_in g id index) (tree_at s r.tree index)

-- the bytes of an object's block
abbrev pub block_now : Stored → Changes → ℕ → ObjRec → ℕ → List ℕ
block_now s g id r index = bytes_of s r.units (pointer_now s g id r index)

-- a byte of an object
abbrev pub byte_now : Stored → Changes → ℕ → ObjRec → ℕ → ℕ
byte_now s g id r at = slice_index (block_now s g id r (at / (4096 * r.units))) (at % (4096 * r.units))

-- the range has a byte of the block
pub record IsTouched (units off len index : ℕ) : Type 0 where
  pub begins : off < 4096 * units * (index + 1)
  pub ends : 4096 * units * index < off + len

-- the block of a pointer
abbrev pub block_in : Ptr → Option Bptr
block_in Hole = None
block_in (At b) = Some b

-- these are the blocks that the pointers lead to, each behind its index, by rising index
pub record HasLeaves (at : ℕ → Ptr) (leaves : List (ℕ × Bptr)) : Type 0 where
  pub rising : IsRising leaves
  pub each : (index : ℕ) → value_at leaves index ≡ block_in (at index)

-- what a block with these bytes adds to the sum of its object: its index and the bytes, and nothing where all are 0
abbrev pub summed : ℕ → List ℕ → List ℕ
summed index bytes = if list_any (λ b. not (b == 0)) bytes then word index ++ bytes else []

-- the SHA-256 of the blocks that are not all zeros, each behind its index, by rising index
pub record IsObjectSum (s : Stored) (g : Changes) (id : ℕ) (r : ObjRec) (sum : List ℕ) : Type 0 where
  pub leaves : List (ℕ × Bptr)
  pub are_leaves : HasLeaves (pointer_now s g id r) leaves
  pub sum_is : sum ≡ sha256 (flat_map (λ leaf. summed leaf.0 (s.bytes leaf.1)) leaves)

-- the blocks of an object, and then the tree blocks that lead to those that the group has not changed
pub record AreObjectBlocks (s : Stored) (g : Changes) (id : ℕ) (r : ObjRec) (blocks : List Bptr) : Type 0 where
  pub leaves : List (ℕ × Bptr)
  pub are_leaves : HasLeaves (pointer_now s g id r) leaves
  pub all : blocks ≡ map (λ leaf. leaf.1) leaves ++ tree_blocks s r.tree
