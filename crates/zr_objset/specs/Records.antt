-- The objects of a directory, and their blocks.
use Rattle.std.specs.Prelude.{◌≡◌, ◌*◌, ◌/◌, ◌%◌, ◌++◌, nat_eq, if◌then◌else◌, ℕ, List, [], map, take, drop, replicate, slice_index_or, Option, Some, None}
use Rattle.std.specs.List.{flat_map}
use Rattle.std.specs.Simd.{first_chunks}
use Rattle.zr_bptr.specs.declared.Bptr.{Bptr}
use Rattle.zr_bptr.specs.declared.Ptr.{Ptr}
use Rattle.zr_bptr.specs.declared.Ptr.TheVariants.{Hole, At}
use Rattle.zr_bptr.specs.declared.Tree.{Tree}
use Rattle.zr_bptr.specs.declared.ObjRec.{ObjRec}
use Rattle.zr_bptr.specs.Fields.{word_at}
use Rattle.zr_store.specs.Store.{Stored}
use Rattle.zr_tree.specs.Blocks.{read_pointer}
use Rattle.zr_tree.specs.Trees.{tree_at, tree_reach}

-- the record whose fields stand in the bytes, none where they tell no size
abbrev pub read_record : List ℕ → Option ObjRec
read_record bytes =
    if nat_eq (word_at bytes 0) 0 then None else Some (record { units = word_at bytes 0; tree = record { root = read_pointer (take 128 (drop 16 bytes)); height = word_at bytes 8 } })

-- the sixteen records whose fields stand in the bytes, whether or not they are lawful
unfoldable pub records_in : List ℕ → List (Option ObjRec)
records_in bytes = map read_record (first_chunks 256 16 bytes)

-- the record at a place of a leaf of the directory, none in a hole
abbrev pub record_in : Stored → Ptr → ℕ → Option ObjRec
record_in s Hole place = None
record_in s (At b) place = slice_index_or (records_in (s.bytes b)) place None

-- the record of an object, none where there is no such object
abbrev pub record_of : Stored → Tree → ℕ → Option ObjRec
record_of s dir id = record_in s (tree_at s dir (id / 16)) (id % 16)

-- the bytes of a leaf of so many units, zeros for a hole
abbrev pub bytes_of : Stored → ℕ → Ptr → List ℕ
bytes_of s units Hole = replicate (4096 * units) 0
bytes_of s units (At b) = s.bytes b

-- the bytes of an object's block
abbrev pub block_of : Stored → ObjRec → ℕ → List ℕ
block_of s r index = bytes_of s r.units (tree_at s r.tree index)

-- the blocks of an object that is there
abbrev pub object_reach : Stored → Option ObjRec → List Bptr
object_reach s None = []
object_reach s (Some r) = tree_reach s r.tree

-- the blocks of the objects of a leaf of the directory; a tree block has none of its own
abbrev pub leaf_reach : Stored → Bptr → List Bptr
leaf_reach s b = if nat_eq b.level 0 then flat_map (object_reach s) (records_in (s.bytes b)) else []

-- the blocks of a directory, and then those of its objects by rising ID
abbrev pub all_reach : Stored → Tree → List Bptr
all_reach s dir = tree_reach s dir ++ flat_map (leaf_reach s) (tree_reach s dir)

-- the directory has the same objects, and the same blocks
pub record KeepsObjects (old new : Stored) (dir : Tree) : Type 0 where
  pub records : (id : ℕ) → record_of new dir id ≡ record_of old dir id
  pub reach : all_reach new dir ≡ all_reach old dir
