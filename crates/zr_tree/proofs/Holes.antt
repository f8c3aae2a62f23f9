-- Blocks of holes, and one step down.
use Rattle.std.proofs.Common.{◌≡◌, ◌≢◌, ◌+◌, ◌*◌, ◌/◌, ◌^◌, ◌<◌, ◌≤◌, inl, inr, ℕ, zero, suc, List, [], ◌∷◌, ◌++◌, length, get_or, refl, sym, ◌∙◌, ap, subst, arith}
use Rattle.std.proofs.lemmas.Bool.{cases_lt}
use Rattle.std.proofs.lemmas.Bool.Decides.{nat_tests}
use Rattle.std.proofs.Math.Nat.{div-div-eq-div-mul, div-eq_of_lt, pow-suc, pow-le-pow_right, lt-div-mul-add}
use Rattle.std.proofs.lemmas.List.{get_or_default}
use Rattle.std.proofs.lemmas.List.Elements.{All-head, All-tail}
use Rattle.std.specs.Prelude.{All, ◌↔◌}
use Rattle.zr_bptr.specs.declared.Bptr.{Bptr}
use Rattle.zr_bptr.specs.declared.Ptr.{Ptr}
use Rattle.zr_bptr.specs.declared.Ptr.TheVariants.{Hole, At}
use Rattle.zr_bptr.specs.declared.Tree.{Tree}
use Rattle.std.specs.List.{flat_map}
use Rattle.zr_store.specs.Store.{Stored}
use Rattle.zr_tree.specs.Blocks.{pointers_in}
use Rattle.zr_tree.specs.Trees.{kids, slot, digit, leaf_at, leaves_below, tree_at, blocks, IsOpen, IsWhole, IsWay, IsTreeWay}
use Rattle.zr_tree.proofs.Frames.{hole_leaf, way_hole}

pub hole_blocks : (s : Stored) (level : ℕ) → blocks s level Hole ≡ []
hole_blocks s zero = refl
hole_blocks s (suc below) = refl

pub holes_blocks : (s : Stored) (level : ℕ) (ps : List Ptr) → All (λ p. p ≡ Hole) ps → flat_map (blocks s level) ps ≡ []
holes_blocks s level [] h = refl
holes_blocks s level (p ∷ ps) h =
    ap (λ (q : Ptr). blocks s level q ++ flat_map (blocks s level) ps) (All-head (λ q. q ≡ Hole) p ps h)
    ∙ ap (λ (bs : List Bptr). bs ++ flat_map (blocks s level) ps) (hole_blocks s level)
    ∙ holes_blocks s level ps (All-tail (λ q. q ≡ Hole) p ps h)

pub hole_leaves : (s : Stored) (level : ℕ) → leaves_below s level Hole ≡ []
hole_leaves s zero = refl
hole_leaves s (suc below) = refl

pub holes_leaves : (s : Stored) (level : ℕ) (ps : List Ptr) → All (λ p. p ≡ Hole) ps → flat_map (leaves_below s level) ps ≡ []
holes_leaves s level [] h = refl
holes_leaves s level (p ∷ ps) h =
    ap (λ (q : Ptr). leaves_below s level q ++ flat_map (leaves_below s level) ps) (All-head (λ q. q ≡ Hole) p ps h)
    ∙ ap (λ (bs : List Bptr). bs ++ flat_map (leaves_below s level) ps) (hole_leaves s level)
    ∙ holes_leaves s level ps (All-tail (λ q. q ≡ Hole) p ps h)

pub hole_slot : (ps : List Ptr) (k : ℕ) → All (λ p. p ≡ Hole) ps → slot ps k ≡ Hole
hole_slot [] k h = refl
hole_slot (p ∷ ps) zero h = All-head (λ q. q ≡ Hole) p ps h
hole_slot (p ∷ ps) (suc k) h = hole_slot ps k (All-tail (λ q. q ≡ Hole) p ps h)

-- a hole stands for 32 holes
pub open_hole : (s : Stored) (below : ℕ) (ps : List Ptr) → All (λ p. p ≡ Hole) ps → IsOpen s below Hole ps
open_hole s below ps h = record {
  leaves = λ index. sym (ap (λ (q : Ptr). leaf_at s below q index) (hole_slot ps (digit below index) h) ∙ hole_leaf s below index);
  tree_blocks = sym (holes_blocks s below ps h);
  all_leaves = sym (holes_leaves s below ps h);
  way = λ index. (λ way. (tt, subst (λ (q : Ptr). IsWay s below q index) (sym (hole_slot ps (digit below index) h)) (way_hole s below index)), λ way. tt);
}

-- a block stands for the pointers in its bytes
pub opened : (s : Stored) (below : ℕ) (b : Bptr) (bytes : List ℕ) (ps : List Ptr) → s.bytes b ≡ bytes → pointers_in bytes ≡ ps → IsOpen s below (At b) ps
opened s below b bytes ps given are =
    let same : kids s below b ≡ ps = ap (λ (xs : List ℕ). pointers_in xs) given ∙ are in
    record {
      leaves = λ index. ap (λ (qs : List Ptr). leaf_at s below (slot qs (digit below index)) index) same;
      tree_blocks = ap (λ (qs : List Ptr). b ∷ flat_map (blocks s below) qs) same;
      all_leaves = ap (λ (qs : List Ptr). flat_map (leaves_below s below) qs) same;
      way = λ index. subst (λ (qs : List Ptr). IsWay s (suc below) (At b) index ↔ (IsWhole s b × IsWay s below (slot qs (digit below index)) index)) same (λ way. way, λ way. way);
    }

-- one block down
pub leaf_step : (s : Stored) (level below : ℕ) (p : Ptr) (b : Bptr) (index k : ℕ) (ps : List Ptr) (next : Ptr) → level ≡ suc below → p ≡ At b → ps ≡ kids s below b → k ≡ digit below index → k < length ps → next ≡ get_or ps k next
    → leaf_at s level p index ≡ leaf_at s below next index
leaf_step s level below p b index k ps next level_is is kids_are k_is lt next_is =
    ap (λ (l : ℕ). leaf_at s l p index) level_is ∙ ap (λ (q : Ptr). leaf_at s (suc below) q index) is
    ∙ ap (λ (qs : List Ptr). leaf_at s below (slot qs (digit below index)) index) (sym kids_are)
    ∙ ap (λ (j : ℕ). leaf_at s below (slot ps j) index) (sym k_is)
    ∙ ap (λ (q : Ptr). leaf_at s below q index) (get_or_default ps k Hole next lt ∙ sym next_is)

pub way_step : (s : Stored) (level below : ℕ) (p : Ptr) (b : Bptr) (index k : ℕ) (ps : List Ptr) (next : Ptr) → level ≡ suc below → p ≡ At b → ps ≡ kids s below b → k ≡ digit below index → k < length ps → next ≡ get_or ps k next → IsWhole s b
    → IsWay s below next index → IsWay s level p index
way_step s level below p b index k ps next level_is is kids_are k_is lt next_is whole way =
    let slot_is = next_is ∙ sym (get_or_default ps k Hole next lt) ∙ ap (slot ps) k_is ∙ ap (λ (qs : List Ptr). slot qs (digit below index)) kids_are in
    subst (λ (l : ℕ). IsWay s l p index) (sym level_is) (subst (λ (q : Ptr). IsWay s (suc below) q index) (sym is) (whole, subst (λ (q : Ptr). IsWay s below q index) slot_is way))

pub div-suc : (n h : ℕ) → n / 32 ^ suc h ≡ n / 32 ^ h / 32
div-suc n h = ap (λ (m : ℕ). n / m) (pow-suc 32 h) ∙ sym (div-div-eq-div-mul n (32 ^ h) 32)

pub pow-pos : (h : ℕ) → 0 < 32 ^ h
pow-pos zero = omega arith
pow-pos (suc h) = let e = pow-pos h in omega (arith, pow-suc 32 h, e)

pub below_top : (n h : ℕ) → n / 32 ^ h ≡ 0 → n < 32 ^ h
below_top n h e = let pos = pow-pos h in let lt = lt-div-mul-add {a = n} {b = 32 ^ h} pos in let lt_one = subst (λ (q : ℕ). n < q * 32 ^ h + 32 ^ h) e lt in omega (arith, lt_one)

pub inside : (s : Stored) (t : Tree) (index : ℕ) → index / 32 ^ t.height ≡ 0 → tree_at s t index ≡ leaf_at s t.height t.root index
inside s t index e = let lt = below_top index t.height e in grind (arith, nat_tests)

-- past the height there is nothing
pub outside : (s : Stored) (t : Tree) (index level : ℕ) → t.height ≤ level → index / 32 ^ level ≢ 0 → tree_at s t index ≡ Hole
outside s t index level le ne = elim (cases_lt index (32 ^ t.height)) [
  | inl lt ↦ absurd (ne (div-eq_of_lt (omega (arith, lt, pow-le-pow_right {n = 32} (omega arith) {i = t.height} {j = level} le))))
  | inr ge ↦ grind (arith, nat_tests)
]

pub no_way : (s : Stored) (t : Tree) (index level : ℕ) → t.height ≤ level → index / 32 ^ level ≢ 0 → IsTreeWay s t index
no_way s t index level le ne lt = absurd (ne (div-eq_of_lt (omega (arith, lt, pow-le-pow_right {n = 32} (omega arith) {i = t.height} {j = level} le))))
