-- What a group has changed since the last commit.
use Rattle.std.specs.Prelude.{◌≡◌, ℕ, List, [], length, sum_by, Option, Some, None, option_map}
use Rattle.std.specs.List.{AllByRecursion}
use Rattle.zr_bptr.specs.declared.Ptr.{Ptr}
use Rattle.zr_bptr.specs.declared.ObjRec.{ObjRec}
use Rattle.zr_txg.specs.Tables.{IsRising, value_at, put_value}

-- a changed object: its last record, None where it was dropped, and the last change of each changed block by index
pub record ObjectChange : Type 0 where
  pub object : Option ObjRec
  pub blocks : List (ℕ × Ptr)

-- the group's number, and the changed objects by ID
pub record Changes : Type 0 where
  pub txg : ℕ
  pub objects : List (ℕ × ObjectChange)

-- the last record of an object, where it is changed
abbrev pub object_in : Changes → ℕ → Option (Option ObjRec)
object_in g id = option_map (λ c. c.object) (value_at g.objects id)

abbrev pub blocks_of : Option ObjectChange → List (ℕ × Ptr)
blocks_of None = []
blocks_of (Some c) = c.blocks

-- the changed blocks of an object
abbrev pub changes_in : Changes → ℕ → List (ℕ × Ptr)
changes_in g id = blocks_of (value_at g.objects id)

-- the last change of a block
abbrev pub change_in : Changes → ℕ → ℕ → Option Ptr
change_in g id index = value_at (changes_in g id) index

-- how many blocks are changed
abbrev pub block_count : List (ℕ × ObjectChange) → ℕ
block_count objects = sum_by (λ e. length e.1.blocks) objects

-- the object is changed and there
abbrev pub IsRecorded : Changes → ℕ → Type 0
IsRecorded g id = (r : ObjRec) × (object_in g id ≡ Some (Some r))

-- the change of an object with the change of a block more
abbrev pub with_block : ObjectChange → ℕ → Ptr → ObjectChange
with_block c index p = record { object = c.object; blocks = put_value c.blocks index p }

-- the change of an object with this record; a dropped object has no blocks
abbrev pub with_record : Option ObjectChange → Option ObjRec → ObjectChange
with_record c None = record { object = None; blocks = [] }
with_record c (Some r) = record { object = Some r; blocks = blocks_of c }

-- the changed blocks of an object rise, and a dropped object has none
pub record IsChange (c : ObjectChange) : Type 0 where
  pub rising : IsRising c.blocks
  pub dropped : c.object ≡ None → c.blocks ≡ []

-- the IDs rise, and the changed blocks are counted
pub record IsGroup (objects : List (ℕ × ObjectChange)) (count : ℕ) : Type 0 where
  pub rising : IsRising objects
  pub each : AllByRecursion (λ e. IsChange e.1) objects
  pub counted : count ≡ block_count objects
