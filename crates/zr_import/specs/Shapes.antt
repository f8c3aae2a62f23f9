-- What stands where in a tree that is walked.
use Rattle.std.specs.Prelude.{◌≡◌, ℕ, ◌≤◌, ◌<◌, ◌+◌, ◌-◌, ◌*◌, ◌%◌, ◌^◌, ◌++◌, List, length, map, min, All, true}
use Rattle.zr_bptr.specs.declared.Bptr.{Bptr}
use Rattle.zr_bptr.specs.declared.Tree.{Tree}
use Rattle.zr_store.specs.Store.{Stored}
use Rattle.zr_bptr.specs.declared.Ptr.{Ptr}
use Rattle.zr_bptr.specs.declared.Ptr.TheVariants.{Hole, At}
use Rattle.zr_tree.specs.Trees.{slot, leaf_at, leaves_below}
use Rattle.zr_root.specs.Streams.{HasLeaves}
use Rattle.zr_root.specs.Levels.{ReadsLeaves}
use Rattle.zr_import.specs.declared.walks.Shape.{Shape}

-- a hole stands at this index only where none is missing before the last leaf, and a block before the last leaf; a leaf
-- has its length
abbrev pub MayStand : Shape → ℕ → ℕ → Ptr → Type 0
MayStand shape level index Hole = shape.full ≡ true → shape.leaves ≤ index
MayStand shape level index (At b) = (index < shape.leaves) × (level ≡ 0 → b.at.len ≡ shape.leaf_units)

-- so do the pointers of a block from an index on
abbrev pub StandFrom : Shape → ℕ → ℕ → List Ptr → Type 0
StandFrom shape level index pointers = (k : ℕ) → k < 32 → MayStand shape level (index + k * 32 ^ level) (slot pointers k)

-- so does each leaf below a pointer whose first leaf has this index
abbrev pub StandBelow : Stored → Shape → ℕ → ℕ → Ptr → Type 0
StandBelow s shape level index p = (i : ℕ) → MayStand shape 0 (index + i % 32 ^ level) (leaf_at s level p i)

-- The leaves below a pointer of a level are the first ones from this index on, as far as there are n, each of so many units.
pub record HasFirst (s : Stored) (n units level index : ℕ) (p : Ptr) : Type 0 where
  pub count : length (leaves_below s level p) ≡ min (n - index) (32 ^ level)
  pub places : (i : ℕ) → leaf_at s level p i ≡ slot (map At (leaves_below s level p)) (i % 32 ^ level)
  pub units_are : All (λ b. b.at.len ≡ units) (leaves_below s level p)

-- the bytes of these leaves came behind the others
pub record AddsLeaves (s : Stored) (leaves : List Bptr) (old new : List ℕ) : Type 0 where
  pub read : List ℕ
  pub added : new ≡ old ++ read
  pub reads : ReadsLeaves s leaves read

-- the bytes are those of the leaves of the tree, of which there are n
pub record ReadsTree (s : Stored) (t : Tree) (n : ℕ) (bytes : List ℕ) : Type 0 where
  pub leaves : List Bptr
  pub are_leaves : HasLeaves s t leaves
  pub count : length leaves ≡ n
  pub reads : ReadsLeaves s leaves bytes
