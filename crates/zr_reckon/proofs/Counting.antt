-- Counts of units by a test, and sums over devices.
use Rattle.std.proofs.Common.{◌≡◌, ℕ, zero, suc, ◌+◌, ◌-◌, ◌<◌, ◌≤◌, min, Bool, true, false, ◌&&◌, ◌||◌, ◌==◌, nat_le, nat_lt, List, [], ◌∷◌, length, refl, ◌∙◌, sym, ap, arith, cond, if◌then◌else◌, ⊎_elim}
use Rattle.std.specs.Prelude.{filter}
use Rattle.std.specs.List.{sum_by, range_with_len}
use Rattle.std.proofs.lemmas.Bool.{cases_lt}
use Rattle.std.proofs.lemmas.Bool.Decides.{nat_tests}
use Rattle.std.proofs.lemmas.List.Sums.{sum_by-cons}
use Rattle.zr_base.specs.declared.space.Extent.{Extent}
use Rattle.zr_base.specs.declared.space.DevPart.{DevPart}
use Rattle.zr_base.specs.Extents.{in_extent}
use Rattle.zr_rules.specs.Places.{one_if, count_below, part_of}

-- ---- counts

pub count_as : (n : ℕ) (f g : ℕ → Bool) → ((u : ℕ) → u < n → f u ≡ g u) → count_below n f ≡ count_below n g
count_as zero f g same = refl
count_as (suc n) f g same = let r = count_as n f g (λ u lt. same u (omega (arith, lt))) in let s = ap one_if (same n (omega arith)) in omega (arith, r, s)

-- tests that never hold together
pub count_or : (n : ℕ) (a b : ℕ → Bool) → ((u : ℕ) → a u ≡ true → b u ≡ false) → count_below n (λ u. a u || b u) ≡ count_below n a + count_below n b
count_or zero a b apart = refl
count_or (suc n) a b apart = omega (arith, count_or n a b apart, both (a n) (b n) (apart n))
  where
    both : (x y : Bool) → (x ≡ true → y ≡ false) → one_if (x || y) ≡ one_if x + one_if y
    both true true apart = absurd (let h = apart refl in cc)
    both true false apart = refl
    both false true apart = refl
    both false false apart = refl

-- a test that holds wherever another one does
pub count_more : (n : ℕ) (a b : ℕ → Bool) → ((u : ℕ) → u < n → a u ≡ true → b u ≡ true) → count_below n a ≤ count_below n b
count_more zero a b h = omega arith
count_more (suc n) a b h = omega (arith, count_more n a b (λ u lt. h u (omega (arith, lt))), both (a n) (b n) (h n (omega arith)))
  where
    both : (x y : Bool) → (x ≡ true → y ≡ true) → one_if x ≤ one_if y
    both true true h = omega arith
    both true false h = absurd (let k = h refl in cc)
    both false true h = omega arith
    both false false h = omega arith

-- the numbers of a run below a bound
pub count_in : (n start len : ℕ) → count_below n (λ u. nat_le start u && nat_lt u (start + len)) ≡ min n (start + len) - min n start
count_in zero start len = omega arith
count_in (suc n) start len = grind (arith, nat_tests, count_in n start len)

pub count_extent : (n : ℕ) (e : Extent) → (0 < e.len → e.start + e.len ≤ n) → count_below n (in_extent e) ≡ e.len
count_extent n e fits = ⊎_elim
    (λ some. let le = fits some in let c = count_in n e.start e.len in omega (arith, c, le))
    (λ none. let c = count_in n e.start e.len in omega (arith, c, none))
    (cases_lt 0 e.len)

pub count_none : (n : ℕ) → count_below n (λ u. false) ≡ 0
count_none zero = refl
count_none (suc n) = omega (arith, count_none n)

-- four counts of which one at most goes up at each number
pub count_four : (n : ℕ) (a b c e all : ℕ → Bool) → ((u : ℕ) → one_if (a u) + one_if (b u) + one_if (c u) + one_if (e u) ≡ one_if (all u)) → count_below n a + count_below n b + count_below n c + count_below n e ≡ count_below n all
count_four zero a b c e all each = refl
count_four (suc n) a b c e all each = let r = count_four n a b c e all each in let h = each n in omega (arith, r, h)

-- a test that holds at the units of an extent too
pub count_with : (n : ℕ) (a b : ℕ → Bool) (e : Extent) → (0 < e.len → e.start + e.len ≤ n) → ((u : ℕ) → in_extent e u ≡ true → a u ≡ false) → ((u : ℕ) → u < n → b u ≡ (in_extent e u || a u)) → count_below n b ≡ count_below n a + e.len
count_with n a b e fits apart same =
    let s = count_as n b (λ u. in_extent e u || a u) same in
    let o = count_or n (in_extent e) a apart in
    let c = count_extent n e fits in
    omega (arith, s, o, c)

-- ---- sums

pub sum_as : {X : Type 0} (f g : X → ℕ) (xs : List X) → ((x : X) → f x ≡ g x) → sum_by f xs ≡ sum_by g xs
sum_as f g [] same = refl
sum_as f g (x ∷ xs) same = let s = same x in let r = sum_as f g xs same in let a = sum_by-cons f x xs in let b = sum_by-cons g x xs in omega (arith, s, r, a, b)

-- a sum that is greater by another one at most
pub sum_grows : {X : Type 0} (f g h : X → ℕ) (xs : List X) → ((x : X) → f x ≤ g x + h x) → sum_by f xs ≤ sum_by g xs + sum_by h xs
sum_grows f g h [] less = omega arith
sum_grows f g h (x ∷ xs) less =
    let s = less x in
    let r = sum_grows f g h xs less in
    let a = sum_by-cons f x xs in
    let b = sum_by-cons g x xs in
    let c = sum_by-cons h x xs in
    omega (arith, s, r, a, b, c)

pub sum_less : {X : Type 0} (f g : X → ℕ) (xs : List X) → ((x : X) → f x ≤ g x) → sum_by f xs ≤ sum_by g xs
sum_less f g [] less = omega arith
sum_less f g (x ∷ xs) less = let s = less x in let r = sum_less f g xs less in let a = sum_by-cons f x xs in let b = sum_by-cons g x xs in omega (arith, s, r, a, b)

-- a sum of sums
pub sum_both : {X : Type 0} (f g h : X → ℕ) (xs : List X) → ((x : X) → f x ≡ g x + h x) → sum_by f xs ≡ sum_by g xs + sum_by h xs
sum_both f g h [] same = refl
sum_both f g h (x ∷ xs) same =
    let s = same x in
    let r = sum_both f g h xs same in
    let a = sum_by-cons f x xs in
    let b = sum_by-cons g x xs in
    let c = sum_by-cons h x xs in
    omega (arith, s, r, a, b, c)

pub sum_zero : {X : Type 0} (xs : List X) → sum_by (λ x. 0) xs ≡ 0
sum_zero [] = refl
sum_zero {X} (x ∷ xs) = let r = sum_zero xs in let a = sum_by-cons (λ (y : X). 0) x xs in omega (arith, r, a)

-- a number at one index
abbrev pub only_at : ℕ → ℕ → ℕ → ℕ
only_at k c d = if d == k then c else 0

sum_past : (k c a n : ℕ) → k < a → sum_by (only_at k c) (range_with_len a n) ≡ 0
sum_past k c a zero lt = refl
sum_past k c a (suc n) lt =
    let r = sum_past k c (a + 1) n (omega (arith, lt)) in
    let m = sum_by-cons (only_at k c) a (range_with_len (a + 1) n) in
    grind (arith, nat_tests, r, m, lt)

sum_only : (k c a n : ℕ) → a ≤ k → k < a + n → sum_by (only_at k c) (range_with_len a n) ≡ c
sum_only k c a zero le lt = absurd (omega (arith, le, lt))
sum_only k c a (suc n) le lt = ⊎_elim
    (λ later.
    let r = sum_only k c (a + 1) n (omega (arith, later)) (omega (arith, lt)) in
    let m = sum_by-cons (only_at k c) a (range_with_len (a + 1) n) in
    grind (arith, nat_tests, r, m, later))
    (λ here.
    let r = sum_past k c (a + 1) n (omega (arith, here)) in
    let m = sum_by-cons (only_at k c) a (range_with_len (a + 1) n) in
    grind (arith, nat_tests, r, m, le, here))
    (cases_lt a k)

pub sum_at : (k c n : ℕ) → k < n → sum_by (only_at k c) (range_with_len 0 n) ≡ c
sum_at k c n lt = sum_only k c 0 n (omega arith) (omega (arith, lt))

pub sum_at_most : (k c n : ℕ) → sum_by (only_at k c) (range_with_len 0 n) ≤ c
sum_at_most k c n = ⊎_elim
    (λ lt. let s = sum_at k c n lt in omega (arith, s))
    (λ ge. let s = sum_low k c 0 n (omega (arith, ge)) in omega (arith, s))
    (cases_lt k n)
  where
    sum_low : (k c a n : ℕ) → a + n ≤ k → sum_by (only_at k c) (range_with_len a n) ≡ 0
    sum_low k c a zero le = refl
    sum_low k c a (suc n) le =
        let r = sum_low k c (a + 1) n (omega (arith, le)) in
        let m = sum_by-cons (only_at k c) a (range_with_len (a + 1) n) in
        grind (arith, nat_tests, r, m, le)

-- a sum over those that pass is one in which the others have none
pub sum_passing : {X : Type 0} (h : X → ℕ) (p : X → Bool) (xs : List X) → sum_by h (filter p xs) ≡ sum_by (λ x. if p x then h x else 0) xs
sum_passing h p [] = refl
sum_passing {X} h p (x ∷ xs) = one (p x) x (filter p xs) ∙ (ap (λ n. (if p x then h x else 0) + n) (sum_passing h p xs) ∙ sym (sum_by-cons (λ (y : X). if p y then h y else 0) x xs))
  where
    one : (b : Bool) (y : X) (ys : List X) → sum_by h (cond b (y ∷ ys) ys) ≡ (if b then h y else 0) + sum_by h ys
    one true y ys = sum_by-cons h y ys
    one false y ys = omega arith

-- a sum over devices is one by index
pub from_range : (h : ℕ → ℕ) (g : DevPart → ℕ) (a : ℕ) (devs : List DevPart) → ((i : ℕ) → h (a + i) ≡ g (part_of devs i)) → sum_by h (range_with_len a (length devs)) ≡ sum_by g devs
from_range h g a [] same = refl
from_range h g a (x ∷ xs) same =
    let here : h a ≡ g x = ap h (let z : a ≡ a + 0 = omega arith in z) ∙ same 0 in
    let rest = from_range h g (a + 1) xs (λ i. ap h (let z : (a + 1) + i ≡ a + suc i = omega arith in z) ∙ same (suc i)) in
    let p = sum_by-cons h a (range_with_len (a + 1) (length xs)) in
    let q = sum_by-cons g x xs in
    omega (arith, here, rest, p, q)

pub by_index : (g : DevPart → ℕ) (devs : List DevPart) → sum_by g devs ≡ sum_by (λ d. g (part_of devs d)) (range_with_len 0 (length devs))
by_index g devs = sym (from_range (λ d. g (part_of devs d)) g 0 devs (λ i. ap (λ (d : ℕ). g (part_of devs d)) (let z : 0 + i ≡ i = omega arith in z)))
