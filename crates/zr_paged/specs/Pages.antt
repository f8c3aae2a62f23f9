-- A set of units in pages of extents, which stand in the nodes of a tree.
use Rattle.std.specs.Prelude.{◌≡◌, ℕ, ◌+◌, ◌≤◌, ◌<◌, ◌^◌, false, List, [], ◌∷◌, ◌++◌, length}
use Rattle.zr_base.specs.declared.space.Extent.{Extent}
use Rattle.zr_base.specs.Extents.{IsMaximal, HasAll, RemovesUnits, has_unit, unit_count}
use Rattle.zr_ranges.specs.Words.{AreSetWords}
use Rattle.zr_ranges.specs.declared.words.Words.{Words}
use Rattle.zr_paged.specs.Runs.{start_of}
use Rattle.zr_paged.specs.declared.tree.Tree.{Tree, Empty, Fork'}
use Rattle.zr_paged.specs.declared.tree.Node.{Node}

-- the pages of a tree in order: a node's page stands between those of its two sides
abbrev pub pages_in : Tree → List (List Extent)
pages_in Empty = []
pages_in (Fork' p low page height high) = pages_in low ++ page ∷ pages_in high

-- the same of a node
abbrev pub pages_of : Node → List (List Extent)
pages_of n = pages_in n.low ++ n.page ∷ pages_in n.high

-- all extents in order
abbrev pub all_of : List (List Extent) → List Extent
all_of [] = []
all_of (page ∷ pages) = page ++ all_of pages

-- no page is empty, and none has more than 64 extents
abbrev pub AreFit : List (List Extent) → Type 0
AreFit [] = Unit {0}
AreFit (page ∷ pages) = (0 < length page) × (length page ≤ 64) × AreFit pages

-- the same, but for the page on top, which may be empty or have one extent more
abbrev pub IsOpen : Tree → Type 0
IsOpen Empty = Unit {0}
IsOpen (Fork' p low page height high) = AreFit (pages_in low) × IsMaximal page × (length page ≤ 65) × AreFit (pages_in high)

-- the page on top is empty, and the others fit
abbrev pub IsHollow : Tree → Type 0
IsHollow Empty = Unit {0}
IsHollow (Fork' p low page height high) = AreFit (pages_in low) × (page ≡ []) × AreFit (pages_in high)

-- the page on top is the lowest
abbrev pub IsFront : Tree → Type 0
IsFront Empty = Unit {0}
IsFront (Fork' p low page height high) = low ≡ Empty

-- pages whose extents are maximal
pub record ArePages (pages : List (List Extent)) : Type 0 where
  pub fit : AreFit pages
  pub maximal : IsMaximal (all_of pages)

-- no page starts at the unit
abbrev pub IsClear : List (List Extent) → ℕ → Type 0
IsClear [] u = Unit {0}
IsClear (page ∷ pages) u = (start_of page ≡ u → ⊥) × IsClear pages u

-- the extent that starts at a unit comes out, whole
pub record TakesNext (old new : List Extent) (u : ℕ) (next : Extent) : Type 0 where
  pub start : next.start ≡ u
  pub not_empty : 0 < next.len
  pub in_range : next.start + next.len ≤ 2 ^ 62
  pub covered : HasAll old next
  pub removed : RemovesUnits old new next
  pub gap : has_unit old (next.start + next.len) ≡ false

-- the pages of a set, the lowest on top, the number of its units and its words
pub record IsPaged (front : Tree) (units : ℕ) (w : Words) : Type 0 where
  pub front_page : IsFront front
  pub pages : ArePages (pages_in front)
  pub counted : units ≡ unit_count (all_of (pages_in front))
  pub words : AreSetWords w (all_of (pages_in front))
