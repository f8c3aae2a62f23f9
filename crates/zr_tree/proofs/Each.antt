-- Changes one after another: what they make of a pointer, and what they weigh.
use Rattle.std.proofs.Common.{◌≡◌, ◌≢◌, ◌+◌, ◌/◌, ◌^◌, ◌<◌, ℕ, List, [], ◌∷◌, ◌++◌, refl, sym, ◌∙◌, ap, arith, nat_eq, false, Bool}
use Rattle.std.specs.Prelude.{if◌then◌else◌, All}
use Rattle.std.specs.List.{AllByRecursion}
use Rattle.std.proofs.lemmas.Bool.{ne_eqb}
use Rattle.std.proofs.lemmas.List.Elements.{All-head, All-tail}
use Rattle.zr_bptr.specs.declared.Bptr.{Bptr}
use Rattle.zr_bptr.specs.declared.Ptr.{Ptr}
use Rattle.zr_tree.specs.Trees.{updated, AllAt, Rises, weigh, weight_at, weight_of}

pub updated_append : (xs ys : List (ℕ × Ptr)) (index : ℕ) (p : Ptr) → updated (xs ++ ys) index p ≡ updated ys index (updated xs index p)
updated_append [] ys index p = refl
updated_append (x ∷ xs) ys index p = updated_append xs ys index (if nat_eq x.0 index then x.1 else p)

-- no change lies at this place
pub updated_other : (level place : ℕ) (changes : List (ℕ × Ptr)) (index : ℕ) (p : Ptr) → AllAt level place changes → index / 32 ^ level ≢ place → updated changes index p ≡ p
updated_other level place [] index p at ne = refl
updated_other level place (x ∷ xs) index p at ne =
    let here = All-head (λ (change : ℕ × Ptr). change.0 / 32 ^ level ≡ place) x xs at in
    let differs : nat_eq x.0 index ≡ false = ne_eqb x.0 index (λ e. ne (ap (λ (n : ℕ). n / 32 ^ level) (sym e) ∙ here)) in
    ap (λ (b : Bool). updated xs index (if b then x.1 else p)) differs ∙ updated_other level place xs index p (All-tail (λ (change : ℕ × Ptr). change.0 / 32 ^ level ≡ place) x xs at) ne

pub weight_at_append : (weight : Bptr → ℕ) (at : ℕ → Ptr) (xs ys : List (ℕ × Ptr)) → weight_at weight at (xs ++ ys) ≡ weight_at weight at xs + weight_at weight at ys
weight_at_append weight at [] ys = omega arith
weight_at_append weight at (x ∷ xs) ys = let e = weight_at_append weight at xs ys in omega (arith, e)

pub weight_of_append : (weight : Bptr → ℕ) (xs ys : List (ℕ × Ptr)) → weight_of weight (xs ++ ys) ≡ weight_of weight xs + weight_of weight ys
weight_of_append weight [] ys = omega arith
weight_of_append weight (x ∷ xs) ys = let e = weight_of_append weight xs ys in omega (arith, e)

all_front : (P : ℕ × Ptr → Type 0) (xs ys : List (ℕ × Ptr)) → AllByRecursion P (xs ++ ys) → AllByRecursion P xs
all_front P [] ys h = tt
all_front P (x ∷ xs) ys h = (h.0, all_front P xs ys h.1)

all_back : (P : ℕ × Ptr → Type 0) (xs ys : List (ℕ × Ptr)) → AllByRecursion P (xs ++ ys) → AllByRecursion P ys
all_back P [] ys h = h
all_back P (x ∷ xs) ys h = all_back P xs ys h.1

pub rises_front : (xs ys : List (ℕ × Ptr)) → Rises (xs ++ ys) → Rises xs
rises_front [] ys h = tt
rises_front (x ∷ xs) ys h = (all_front (λ (later : ℕ × Ptr). x.0 < later.0) xs ys h.0, rises_front xs ys h.1)

pub rises_back : (xs ys : List (ℕ × Ptr)) → Rises (xs ++ ys) → Rises ys
rises_back [] ys h = h
rises_back (x ∷ xs) ys h = rises_back xs ys h.1

-- each of the later is above all of the first
abbrev pub IsAbove : List (ℕ × Ptr) → List (ℕ × Ptr) → Type 0
IsAbove xs [] = Unit {0}
IsAbove xs (y ∷ ys) = AllByRecursion (λ (x : ℕ × Ptr). x.0 < y.0) xs × IsAbove xs ys

pub above_none : (ys : List (ℕ × Ptr)) → IsAbove [] ys
above_none [] = tt
above_none (y ∷ ys) = (tt, above_none ys)

above_more : (x : ℕ × Ptr) (xs ys : List (ℕ × Ptr)) → AllByRecursion (λ (later : ℕ × Ptr). x.0 < later.0) ys → IsAbove xs ys → IsAbove (x ∷ xs) ys
above_more x xs [] h k = tt
above_more x xs (y ∷ ys) h k = ((h.0, k.0), above_more x xs ys h.1 k.1)

pub above_of : (xs ys : List (ℕ × Ptr)) → Rises (xs ++ ys) → IsAbove xs ys
above_of [] ys h = above_none ys
above_of (x ∷ xs) ys h = above_more x xs ys (all_back (λ (later : ℕ × Ptr). x.0 < later.0) xs ys h.0) (above_of xs ys h.1)

-- lower changes do not touch an index
pub updated_past : (xs : List (ℕ × Ptr)) (index : ℕ) (p : Ptr) → AllByRecursion (λ (x : ℕ × Ptr). x.0 < index) xs → updated xs index p ≡ p
updated_past [] index p h = refl
updated_past (x ∷ xs) index p h =
    let lt = h.0 in
    let differs : nat_eq x.0 index ≡ false = ne_eqb x.0 index (λ e. omega (arith, lt, e)) in
    ap (λ (b : Bool). updated xs index (if b then x.1 else p)) differs ∙ updated_past xs index p h.1

-- the leaves at later places are as before the first changes
pub weight_past : (weight : Bptr → ℕ) (f g : ℕ → Ptr) (Here : ℕ → Type 0) (xs ys : List (ℕ × Ptr)) → ((index : ℕ) → Here index → f index ≡ updated xs index (g index)) → All (λ (y : ℕ × Ptr). Here y.0) ys → IsAbove xs ys → weight_at weight f ys ≡ weight_at weight g ys
weight_past weight f g Here xs [] same here above = refl
weight_past weight f g Here xs (y ∷ ys) same here above =
    let at : f y.0 ≡ g y.0 = same y.0 (All-head (λ (c : ℕ × Ptr). Here c.0) y ys here) ∙ updated_past xs y.0 (g y.0) above.0 in
    let a : weigh weight (f y.0) ≡ weigh weight (g y.0) = ap (weigh weight) at in
    let b = weight_past weight f g Here xs ys same (All-tail (λ (c : ℕ × Ptr). Here c.0) y ys here) above.1 in
    omega (arith, a, b)
