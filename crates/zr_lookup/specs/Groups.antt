-- The open group of a pool: its records are of objects, and its blocks may stand in their trees.
use Rattle.std.specs.Prelude.{ℕ, ◌<◌, ◌^◌, IfSome}
use Rattle.std.specs.List.{AllByRecursion}
use Rattle.zr_bptr.specs.declared.Ptr.{Ptr}
use Rattle.zr_bptr.specs.Spelling.{IsObject}
use Rattle.zr_tree.specs.Blocks.{FitsAt}
use Rattle.zr_txg.specs.Changes.{ObjectChange, Changes}

-- a hole, or a leaf
pub record IsBlockChange (c : ℕ × Ptr) : Type 0 where
  pub low : c.0 < 2 ^ 25
  pub leaf : FitsAt 0 c.1

-- the record is one of an object, and each changed block may stand in a tree
pub record IsObjectChange (c : ObjectChange) : Type 0 where
  pub object : IfSome c.object IsObject
  pub blocks : AllByRecursion IsBlockChange c.blocks

pub record IsChangeOf (e : ℕ × ObjectChange) : Type 0 where
  pub id : e.0 < 65536
  pub change : IsObjectChange e.1

-- each changed object is one
abbrev pub IsLawfulGroup : Changes → Type 0
IsLawfulGroup g = AllByRecursion IsChangeOf g.objects
