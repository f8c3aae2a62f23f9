-- Counting by tests that agree.
use Rattle.std.proofs.Common.{◌≡◌, ℕ, zero, suc, ◌+◌, ◌<◌, Bool, true, false, ◌||◌, ◌&&◌, nat_lt, List, [], ◌∷◌, map, refl, ◌∙◌, ap, arith}
use Rattle.std.specs.List.{range_with_len, list_any, sum_by}
use Rattle.std.proofs.lemmas.Bool.Decides.{nat_tests}
use Rattle.std.proofs.lemmas.List.Sums.{sum_by-cons}
use Rattle.zr_base.specs.declared.space.Extent.{Extent}
use Rattle.zr_chain.specs.declared.visit.Visited.{Visited}
use Rattle.zr_base.specs.Extents.{has_unit}
use Rattle.zr_rules.specs.Places.{one_if, count_below}
use Rattle.zr_units.specs.Apart.{IsWithin}
use Rattle.zr_audit.specs.Found.{ends_at}
use Rattle.zr_audit.proofs.Puts.{Has, HasUnits}

pub count_same : (n : ℕ) (f g : ℕ → Bool) → ((u : ℕ) → u < n → f u ≡ g u) → count_below n f ≡ count_below n g
count_same zero f g same = refl
count_same (suc n) f g same =
    let rest = count_same n f g (λ u lt. same u (omega (arith, lt))) in
    let last = ap one_if (same n (omega arith)) in
    omega (arith, rest, last)

pub map_same : (f g : ℕ → ℕ) (a n : ℕ) → ((d : ℕ) → d < a + n → f d ≡ g d) → map f (range_with_len a n) ≡ map g (range_with_len a n)
map_same f g a zero same = refl
map_same f g a (suc n) same =
    let first = same a (omega arith) in
    let rest = map_same f g (a + 1) n (λ d lt. same d (omega (arith, lt))) in
    rw first rw rest refl

pub any_some : {X : Type 0} (p : X → Bool) (f : X → ℕ) → ((x : X) → p x ≡ nat_lt 0 (f x)) → (xs : List X) → list_any p xs ≡ nat_lt 0 (sum_by f xs)
any_some p f same [] = refl
any_some p f same (x ∷ xs) =
    let rest = any_some p f same xs in
    let first = same x in
    grind (arith, nat_tests, first, rest, sum_by-cons f x xs)

pub one_some : (b : Bool) → b ≡ nat_lt 0 (one_if b)
one_some true = refl
one_some false = refl

-- a set that was empty has the units of all three
pub all_three : (first ends both new copies : List Extent) (live meta : List Visited) (dev units : ℕ) → first ≡ [] → Has first ends live dev units → HasUnits ends both copies units → Has both new meta dev units
    → (u : ℕ) → has_unit new u ≡ (((ends_at live dev u || has_unit copies u) || ends_at meta dev u) && nat_lt u units)
all_three first ends both new copies live meta dev units empty one two three u =
    let none : has_unit first u ≡ false = ap (λ (es : List Extent). has_unit es u) empty in
    grind (arith, nat_tests, none, one u, two u, three u)

pub below : (new : List Extent) (test : ℕ → Bool) (units : ℕ) → ((u : ℕ) → has_unit new u ≡ (test u && nat_lt u units)) → IsWithin new units
below new test units is u has = let e = is u in grind (arith, nat_tests, e, has)

pub counted : (new : List Extent) (test : ℕ → Bool) (units n : ℕ) → ((u : ℕ) → has_unit new u ≡ (test u && nat_lt u units)) → n ≡ count_below units (has_unit new) → n ≡ count_below units test
counted new test units n is e = e ∙ count_same units (has_unit new) test (λ u lt. let h = is u in grind (arith, nat_tests, h, lt))
