-- Sums over the first numbers, and over lists by their places.
use Rattle.std.proofs.Common.{◌≡◌, ◌<◌, ◌≤◌, ◌+◌, ◌-◌, ℕ, zero, suc, List, [], ◌∷◌, length, refl, sym, ◌∙◌, ap, arith}
use Rattle.std.specs.Prelude.{slice_index_or}
use Rattle.std.specs.List.{sum_by, flat_map}
use Rattle.std.proofs.lemmas.List.Sums.{sum_by-append, sum_by-cons}

-- the sum of the first n values
abbrev pub total : (ℕ → ℕ) → ℕ → ℕ
total f zero = 0
total f (suc n) = total f n + f n

pub total_more : (f : ℕ → ℕ) (a b : ℕ) → total f (a + b) ≡ total f a + total (λ i. f (a + i)) b
total_more f a zero = let e : a + 0 ≡ a = omega arith in let same = ap (total f) e in omega (arith, same)
total_more f a (suc b) =
    let e : a + suc b ≡ suc (a + b) = omega arith in
    let rest = total_more f a b in
    let next = ap (total f) e in
    omega (arith, rest, next)

pub total_first : (f : ℕ → ℕ) (n : ℕ) → total f (suc n) ≡ f 0 + total (λ i. f (suc i)) n
total_first f zero = omega arith
total_first f (suc n) = let rest = total_first f n in omega (arith, rest)

pub total_none : (f : ℕ → ℕ) (n : ℕ) → ((i : ℕ) → f i ≡ 0) → total f n ≡ 0
total_none f zero none = refl
total_none f (suc n) none = let rest = total_none f n none in let last = none n in omega (arith, rest, last)

pub total_same : (f g : ℕ → ℕ) (n : ℕ) → ((i : ℕ) → i < n → f i ≡ g i) → total f n ≡ total g n
total_same f g zero same = refl
total_same f g (suc n) same =
    let rest = total_same f g n (λ i lt. same i (omega (arith, lt))) in
    let last = same n (omega arith) in
    omega (arith, rest, last)

-- one value is no more than the sum
pub total_one : (f : ℕ → ℕ) (i n : ℕ) → i < n → f i ≤ total f n
total_one f i n lt =
    let k = n - suc i in
    let e : n ≡ suc i + k = omega (arith, lt) in
    let all = ap (total f) e in
    let parts = total_more f (suc i) k in
    omega (arith, all, parts)

-- the values at the places of a list are its sum
pub total_places : {X : Type 0} (h : X → ℕ) (d : X) (xs : List X) (n : ℕ) → length xs ≡ n → total (λ k. h (slice_index_or xs k d)) n ≡ sum_by h xs
total_places h d [] zero long = refl
total_places h d [] (suc n) long = absurd (omega (arith, long))
total_places h d (x ∷ xs) zero long = absurd (omega (arith, long))
total_places h d (x ∷ xs) (suc n) long =
    let first = total_first (λ k. h (slice_index_or (x ∷ xs) k d)) n in
    let rest = total_places h d xs n (omega (arith, long)) in
    omega (arith, first, rest, sum_by-cons h x xs)

-- a sum over lists that are joined is the sum of their sums
pub sum_flat : {X Y : Type 0} (weight : Y → ℕ) (f : X → List Y) (xs : List X) → sum_by weight (flat_map f xs) ≡ sum_by (λ x. sum_by weight (f x)) xs
sum_flat weight f [] = refl
sum_flat weight f (x ∷ xs) =
    sum_by-append weight (f x) (flat_map f xs) ∙ ap (λ n. sum_by weight (f x) + n) (sum_flat weight f xs) ∙ sym (sum_by-cons (λ y. sum_by weight (f y)) x xs)
