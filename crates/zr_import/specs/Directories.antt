-- What a walk finds of a directory and of its objects.
use Rattle.std.specs.Prelude.{◌≡◌, ℕ, ◌<◌, nat_eq, if◌then◌else◌, All, List, [], ◌∷◌, Option, Some, None}
use Rattle.std.specs.List.{flat_map}
use Rattle.zr_bptr.specs.declared.Bptr.{Bptr}
use Rattle.zr_bptr.specs.declared.Ptr.TheVariants.{At}
use Rattle.zr_bptr.specs.declared.Tree.{Tree}
use Rattle.zr_bptr.specs.declared.ObjRec.{ObjRec}
use Rattle.zr_store.specs.Store.{Stored}
use Rattle.zr_tree.specs.Trees.{tree_at, tree_blocks}
use Rattle.zr_objset.specs.Records.{records_in, record_of}

-- the object of a record, where there is one
abbrev pub recorded : Option ObjRec → List ObjRec
recorded None = []
recorded (Some r) = r ∷ []

-- the objects of a leaf of the directory; a tree block has none
abbrev pub objects_in : Stored → Bptr → List ObjRec
objects_in s b = if nat_eq b.level 0 then flat_map recorded (records_in (s.bytes b)) else []

-- each leaf of the object has the length of its blocks
abbrev pub HasItsLength : Stored → ObjRec → Type 0
HasItsLength s r = (i : ℕ) (b : Bptr) → tree_at s r.tree i ≡ At b → b.at.len ≡ r.units

-- The leaves of the directory are those of the first 65,536 objects, and each object has leaves of its own length. The tree blocks of the directory stand above its
-- leaves.
pub record IsInPlace (s : Stored) (dir : Tree) : Type 0 where
  pub leaves : (i : ℕ) (b : Bptr) → tree_at s dir i ≡ At b → (i < 4096) × (b.level ≡ 0)
  pub objects : (id : ℕ) (r : ObjRec) → record_of s dir id ≡ Some r → HasItsLength s r
  pub above : All (λ b. 0 < b.level) (tree_blocks s dir)
