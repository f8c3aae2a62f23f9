-- What changes make of one leaf.
use Rattle.std.proofs.Common.{◌≡◌, ℕ, zero, suc, List, [], ◌∷◌, length, get_or, refl, sym, ap, arith, nat_eq, true, Bool, eq-eqb}
use Rattle.std.specs.Prelude.{All, if◌then◌else◌}
use Rattle.std.specs.List.{sum_by}
use Rattle.std.proofs.lemmas.List.Sums.{sum_by-cons}
use Rattle.std.proofs.lemmas.List.Elements.{All-head, All-tail}
use Rattle.zr_bptr.specs.declared.Bptr.{Bptr}
use Rattle.zr_bptr.specs.declared.Ptr.{Ptr}
use Rattle.zr_bptr.specs.declared.Ptr.TheVariants.{Hole, At}
use Rattle.zr_tree.specs.Trees.{own, updated, AllAt, Rises, weigh, weight_at, SwapsLeaves}

pub updated_last : (changes : List (ℕ × Ptr)) (index n : ℕ) (p : Ptr) (d : ℕ × Ptr) → All (λ change. change.0 ≡ index) changes → length changes ≡ suc n → (get_or changes n d).1 ≡ updated changes index p
updated_last [] index n p d at size = absurd (omega arith)
updated_last (x ∷ []) index zero p d at size =
    let same : nat_eq x.0 index ≡ true = eq-eqb x.0 index (All-head (λ (change : ℕ × Ptr). change.0 ≡ index) x [] at) in
    ap (λ (b : Bool). if b then x.1 else p) (sym same)
updated_last (x ∷ []) index (suc n) p d at size = absurd (omega arith)
updated_last (x ∷ y ∷ xs) index zero p d at size = absurd (omega arith)
updated_last (x ∷ y ∷ xs) index (suc n) p d at size =
    updated_last (y ∷ xs) index n (if nat_eq x.0 index then x.1 else p) d (All-tail (λ (change : ℕ × Ptr). change.0 ≡ index) x (y ∷ xs) at) (omega arith)

pub own_weight : (weight : Bptr → ℕ) (p : Ptr) → sum_by weight (own p) ≡ weigh weight p
own_weight weight Hole = refl
own_weight weight (At b) = omega (arith, sum_by-cons weight b [])

-- only one change is at the leaf itself
pub leaf_weighs : (place n : ℕ) (changes : List (ℕ × Ptr)) (q : Ptr) (d : ℕ × Ptr) → AllAt 0 place changes → length changes ≡ suc n → Rises changes → SwapsLeaves changes (own q) (own (get_or changes n d).1) (λ index. q)
leaf_weighs place n [] q d at size rises = absurd (omega arith)
leaf_weighs place zero (x ∷ []) q d at size rises = record {
  stored = λ weight.
      let a = own_weight weight x.1 in
      let b = own_weight weight q in
      omega (arith, a, b);
}
leaf_weighs place (suc n) (x ∷ []) q d at size rises = absurd (omega arith)
leaf_weighs place n (x ∷ y ∷ xs) q d at size rises =
    let a = at 0 x (omega arith) in
    let b = at 1 x (omega arith) in
    let lt = rises.0.0 in
    absurd (omega (arith, a, b, lt))

-- the leaves at the same places weigh the same
pub weight_same : (weight : Bptr → ℕ) (f g : ℕ → Ptr) (changes : List (ℕ × Ptr)) → ((index : ℕ) → f index ≡ g index) → weight_at weight f changes ≡ weight_at weight g changes
weight_same weight f g [] same = refl
weight_same weight f g (x ∷ xs) same =
    let a : weigh weight (f x.0) ≡ weigh weight (g x.0) = ap (weigh weight) (same x.0) in
    let b = weight_same weight f g xs same in
    omega (arith, a, b)
