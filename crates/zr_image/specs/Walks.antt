-- A walk of a tree that marks each block before it reads it, and ends at the first fault.
use Rattle.std.specs.Prelude.{◌≡◌, ℕ, zero, suc, ◌+◌, ◌*◌, ◌^◌, ◌<◌, ◌≤◌, Bool, true, false, List, [], ◌∷◌, ◌++◌, map}
use Rattle.std.specs.List.{enumerate_from}
use Rattle.zr_base.specs.declared.space.Dva.{Dva}
use Rattle.zr_bptr.specs.declared.Bptr.{Bptr}
use Rattle.zr_bptr.specs.declared.Ptr.{Ptr}
use Rattle.zr_bptr.specs.declared.Ptr.TheVariants.{Hole, At}
use Rattle.zr_bptr.specs.declared.Tree.{Tree}
use Rattle.zr_bptr.specs.Spelling.{SpellsTreeBlock}
use Rattle.zr_rules.specs.Resolve.{is_resolved, leads_to}
use Rattle.zr_rules.specs.Equation.{live_hits}
use Rattle.zr_tree.specs.Trees.{slot}
use Rattle.zr_image.specs.Checks.{Check, ◌>>=◌, Gives, Demands, Finds, Each}
use Rattle.zr_view.specs.Views.{View}
use Rattle.zr_image.specs.Reading.{content, ReadsBlock}
use Rattle.zr_image.specs.Numbers.{Form, Units, broken}

-- What a walk goes by: the disks, the group of the root, the places where units may be, the units of a leaf, whether leaves are read, and at which index of
-- a leaf a hole and a block may stand.
pub record Setting : Type 0 where
  pub view : View
  pub txg : ℕ
  pub may_be : ℕ → ℕ → Bool
  pub leaf_units : ℕ
  pub reads : Bool
  pub holes : ℕ → Bool
  pub blocks : ℕ → Bool

abbrev pub addresses : List Bptr → List Dva
addresses bs = map (λ (b : Bptr). b.at) bs

-- The pointer is no younger than the root, and its units lead to places where they may be and that are not marked yet.
pub record MayMark (s : Setting) (before : List Bptr) (b : Bptr) : Type 0 where
  pub birth : b.birth ≤ s.txg
  pub resolved : is_resolved s.view.devices b.at ≡ true
  pub place : (d u : ℕ) → leads_to s.view.devices b.at d u ≡ true → s.may_be d u ≡ true
  pub apart : (d u : ℕ) → live_hits s.view.devices (addresses (b ∷ before)) d u ≤ 1

-- a pointer is marked, and is one of those marked from then on
abbrev pub Marks : Setting → Bptr → List Bptr → Check (List Bptr)
Marks s b before = do
  marked ← Demands (MayMark s before b) (broken Units)
  Gives (before ++ b ∷ [])

-- a hole or a block may stand there, and a leaf has its length
abbrev pub Fits : Setting → ℕ → ℕ → Ptr → Type 0
Fits s level index Hole = s.holes index ≡ true
Fits s level index (At b) = (s.blocks index ≡ true) × (level ≡ 0 → b.at.len ≡ s.leaf_units)

-- the block has 32 pointers of the level below, each of which may stand in its place
pub record IsBlockOf (s : Setting) (level index : ℕ) (b : Bptr) (ps : List Ptr) : Type 0 where
  pub block : SpellsTreeBlock (content s.view b) level b.fill ps
  pub places : (k : ℕ) → k < 32 → Fits s level (index + k * 32 ^ level) (slot ps k)

-- a leaf is read where leaves are
abbrev pub ReadsLeaf : Bool → View → Bptr → Check (Unit {0})
ReadsLeaf true v b = ReadsBlock v b
ReadsLeaf false v b = Gives tt

-- From a pointer whose first leaf has this index: it is marked, then read, and then what is below it comes by rising index.
abbrev pub WalksBelow : Setting → ℕ → ℕ → Ptr → List Bptr → Check (List Bptr)
WalksBelow s zero index Hole before = Gives before
WalksBelow s zero index (At b) before = do
  marks ← Marks s b before
  read ← ReadsLeaf s.reads s.view b
  Gives marks
WalksBelow s (suc h) index Hole before = Gives before
WalksBelow s (suc h) index (At b) before = do
  marks ← Marks s b before
  read ← ReadsBlock s.view b
  ps ← Finds (IsBlockOf s h index b) (broken Form)
  Each (λ (p : ℕ × Ptr) (marked : List Bptr). WalksBelow s h (index + p.0 * 32 ^ h) p.1 marked) (enumerate_from 0 ps) marks

-- the walk of a tree, with the pointers that are marked before and after
abbrev pub Walks : Setting → Tree → List Bptr → Check (List Bptr)
Walks s t before = WalksBelow s t.height 0 t.root before
