-- One level more at the foot of a tree: what was a leaf is a block.
use Rattle.std.proofs.Common.{◌≡◌, ◌+◌, ◌*◌, ◌/◌, ◌%◌, ◌^◌, ◌<◌, ◌≤◌, inl, inr, ℕ, zero, suc, List, [], ◌∷◌, refl, sym, ◌∙◌, ap, subst, arith, nat_lt, true, false, Bool}
use Rattle.std.specs.Prelude.{if◌then◌else◌}
use Rattle.std.specs.List.{sum_by, flat_map}
use Rattle.std.proofs.lemmas.Bool.{cases_eq}
use Rattle.std.proofs.lemmas.List.Sums.{sum_by-append, sum_by-cons}
use Rattle.std.proofs.Math.Nat.{div-div-eq-div-mul, pow-suc, div-eq_of_lt}
use Rattle.zr_bptr.specs.declared.Bptr.{Bptr}
use Rattle.zr_bptr.specs.declared.Ptr.{Ptr}
use Rattle.zr_bptr.specs.declared.Ptr.TheVariants.{Hole, At}
use Rattle.zr_bptr.specs.declared.Tree.{Tree}
use Rattle.zr_store.specs.Store.{Stored}
use Rattle.zr_tree.specs.Trees.{kids, slot, digit, leaf_at, leaves_below, blocks, own, tree_at, weigh, weight_below, IsWay, IsTreeWay, IsWholeAt}
use Rattle.zr_tree.proofs.Below.{own_weight}
use Rattle.zr_tree.proofs.Frames.{hole_leaf}
use Rattle.zr_tree.proofs.Holes.{inside, outside}
use Rattle.zr_tree.proofs.Wholes.{Within}

-- a tree of this root and height
abbrev pub tree_of : Ptr → ℕ → Tree
tree_of root height = record { root = root; height = height }

pub div_up : (index level : ℕ) → index / 32 ^ suc level ≡ index / 32 / 32 ^ level
div_up index level =
    let e : 32 ^ suc level ≡ 32 * 32 ^ level = omega (arith, pow-suc 32 level) in
    ap (λ (m : ℕ). index / m) e ∙ sym (div-div-eq-div-mul index 32 (32 ^ level))

digit_up : (level index : ℕ) → digit (suc level) index ≡ digit level (index / 32)
digit_up level index = ap (λ (n : ℕ). n % 32) (div_up index level)

pub leaf_up : (s : Stored) (level : ℕ) (p : Ptr) (index : ℕ) → leaf_at s (suc level) p index ≡ leaf_at s 1 (leaf_at s level p (index / 32)) index
leaf_up s zero p index = refl
leaf_up s (suc level) Hole index = refl
leaf_up s (suc level) (At b) index =
    leaf_up s level (slot (kids s level b) (digit (suc level) index)) index
    ∙ ap (λ (k : ℕ). leaf_at s 1 (leaf_at s level (slot (kids s level b) k) (index / 32)) index) (digit_up level index)

pub no_blocks : (s : Stored) (ps : List Ptr) → flat_map (blocks s 0) ps ≡ []
no_blocks s [] = refl
no_blocks s (p ∷ ps) = no_blocks s ps

module _ (weight : Bptr → ℕ) (f g h : Ptr → List Bptr) (each : (p : Ptr) → sum_by weight (f p) ≡ sum_by weight (g p) + sum_by weight (h p)) where
  flat_two : (ps : List Ptr) → sum_by weight (flat_map f ps) ≡ sum_by weight (flat_map g ps) + sum_by weight (flat_map h ps)
  flat_two [] = omega arith
  flat_two (p ∷ ps) =
      let a = each p in
      let b = flat_two ps in
      omega (arith, a, b, sum_by-append weight (f p) (flat_map f ps), sum_by-append weight (g p) (flat_map g ps), sum_by-append weight (h p) (flat_map h ps))

module _ (v w : Bptr → ℕ) (f g : Ptr → List Bptr) (each : (p : Ptr) → sum_by v (f p) ≡ sum_by w (g p)) where
  flat_same : (ps : List Ptr) → sum_by v (flat_map f ps) ≡ sum_by w (flat_map g ps)
  flat_same [] = refl
  flat_same (p ∷ ps) =
      let a = each p in
      let b = flat_same ps in
      omega (arith, a, b, sum_by-append v (f p) (flat_map f ps), sum_by-append w (g p) (flat_map g ps))

-- the tree blocks are those above the lowest row, and that row
pub blocks_up : (s : Stored) (level : ℕ) (p : Ptr) (weight : Bptr → ℕ) → sum_by weight (blocks s (suc level) p) ≡ sum_by weight (blocks s level p) + sum_by weight (leaves_below s level p)
blocks_up s zero Hole weight = omega arith
blocks_up s zero (At b) weight = ap (λ (bs : List Bptr). sum_by weight (b ∷ bs)) (no_blocks s (kids s 0 b)) ∙ omega arith
blocks_up s (suc level) Hole weight = omega arith
blocks_up s (suc level) (At b) weight =
    let below = flat_two weight (blocks s (suc level)) (blocks s level) (leaves_below s level) (λ q. blocks_up s level q weight) (kids s level b) in
    omega (arith, below, sum_by-cons weight b (flat_map (blocks s (suc level)) (kids s level b)), sum_by-cons weight b (flat_map (blocks s level) (kids s level b)))

-- the leaves are those below the blocks of the lowest row
pub leaves_up : (s : Stored) (level : ℕ) (p : Ptr) (weight : Bptr → ℕ) → sum_by weight (leaves_below s (suc level) p) ≡ sum_by (weight_below s weight) (leaves_below s level p)
leaves_up s zero Hole weight = refl
leaves_up s zero (At b) weight = let e = sum_by-cons (weight_below s weight) b [] in omega (arith, e)
leaves_up s (suc level) Hole weight = refl
leaves_up s (suc level) (At b) weight = flat_same weight (weight_below s weight) (leaves_below s (suc level)) (leaves_below s level) (λ q. leaves_up s level q weight) (kids s level b)

-- what lies below one block
pub below_one : (s : Stored) (weight : Bptr → ℕ) (p : Ptr) → sum_by weight (leaves_below s 1 p) ≡ weigh (weight_below s weight) p
below_one s weight Hole = refl
below_one s weight (At b) = refl

way_up : (s : Stored) (level : ℕ) (p : Ptr) (index : ℕ) → IsWay s level p (index / 32) → IsWholeAt s (leaf_at s level p (index / 32)) → IsWay s (suc level) p index
way_up s zero Hole index way whole = tt
way_up s zero (At b) index way whole = (whole, tt)
way_up s (suc level) Hole index way whole = tt
way_up s (suc level) (At b) index way whole = (
  way.0,
  way_up s level (slot (kids s level b) (digit (suc level) index)) index (subst (λ (k : ℕ). IsWay s level (slot (kids s level b) k) (index / 32)) (sym (digit_up level index)) way.1)
      (subst (λ (k : ℕ). IsWholeAt s (leaf_at s level (slot (kids s level b) k) (index / 32))) (sym (digit_up level index)) whole),
)

-- ---- a leaf is one of the leaves

within_all : (s : Stored) (level : ℕ) (each : (p : Ptr) (index : ℕ) → Within (own (leaf_at s level p index)) (leaves_below s level p)) (ps : List Ptr) (k index : ℕ) → Within (own (leaf_at s level (slot ps k) index)) (flat_map (leaves_below s level) ps)
within_all s level each [] k index weight = let e = ap (λ (p : Ptr). sum_by weight (own p)) (hole_leaf s level index) in omega (arith, e)
within_all s level each (p ∷ ps) zero index weight = let h = each p index weight in omega (arith, h, sum_by-append weight (leaves_below s level p) (flat_map (leaves_below s level) ps))
within_all s level each (p ∷ ps) (suc k) index weight = let h = within_all s level each ps k index weight in omega (arith, h, sum_by-append weight (leaves_below s level p) (flat_map (leaves_below s level) ps))

leaf_within : (s : Stored) (level : ℕ) (p : Ptr) (index : ℕ) → Within (own (leaf_at s level p index)) (leaves_below s level p)
leaf_within s zero p index weight = omega arith
leaf_within s (suc level) Hole index weight = omega arith
leaf_within s (suc level) (At b) index weight = within_all s level (λ p i. leaf_within s level p i) (kids s level b) (digit level index) index weight

none_within : (weight : Bptr → ℕ) (xs : List Bptr) → sum_by weight (own Hole) ≤ sum_by weight xs
none_within weight xs = omega arith

pub at_within : (s : Stored) (t : Tree) (index : ℕ) → Within (own (tree_at s t index)) (leaves_below s t.height t.root)
at_within s t index weight = elim (nat_lt index (32 ^ t.height)) as (λ (b : Bool). sum_by weight (own (if b then leaf_at s t.height t.root index else Hole)) ≤ sum_by weight (leaves_below s t.height t.root)) [
  | true ↦ leaf_within s t.height t.root index weight
  | false ↦ none_within weight (leaves_below s t.height t.root)
]

-- so it weighs no more than the tree blocks of the tree that has one level more
pub at_weighs : (s : Stored) (t : Tree) (index : ℕ) (weight : Bptr → ℕ) → weigh weight (tree_at s t index) ≤ sum_by weight (blocks s (suc t.height) t.root)
at_weighs s t index weight =
    let a = at_within s t index weight in
    let b = blocks_up s t.height t.root weight in
    let c = own_weight weight (tree_at s t index) in
    omega (arith, a, b, c)

-- ---- the same of whole trees

pub tree_up : (s : Stored) (root : Ptr) (height index : ℕ) → tree_at s (tree_of root (suc height)) index ≡ leaf_at s 1 (tree_at s (tree_of root height) (index / 32)) index
tree_up s root height index = elim (cases_eq (index / 32 ^ suc height) 0) [
  | inl here ↦
      inside s (tree_of root (suc height)) index here ∙ leaf_up s height root index
      ∙ ap (λ (p : Ptr). leaf_at s 1 p index) (sym (inside s (tree_of root height) (index / 32) (sym (div_up index height) ∙ here)))
  | inr past ↦
      outside s (tree_of root (suc height)) index (suc height) (omega arith) past
      ∙ sym (hole_leaf s 1 index)
      ∙ ap (λ (p : Ptr). leaf_at s 1 p index) (sym (outside s (tree_of root height) (index / 32) height (omega arith) (λ e. past (div_up index height ∙ e))))
]

pub tree_way_up : (s : Stored) (root : Ptr) (height index : ℕ) → IsTreeWay s (tree_of root height) (index / 32) → IsWholeAt s (tree_at s (tree_of root height) (index / 32)) → IsTreeWay s (tree_of root (suc height)) index
tree_way_up s root height index way whole lt =
    let low : index / 32 < 32 ^ height = omega (arith, lt, pow-suc 32 height) in
    way_up s height root index (way low) (subst (IsWholeAt s) (inside s (tree_of root height) (index / 32) (div-eq_of_lt low)) whole)
