-- How many units the devices of an open pool have.
use Rattle.std.proofs.Common.{◌≡◌, ℕ, zero, suc, ◌+◌, ◌*◌, ◌≤◌, ◌<◌, ◌^◌, Bool, true, false, List, ◌∷◌, refl, ap, arith}
use Rattle.std.specs.List.{filter, sum_by, range_with_len}
use Rattle.std.specs.Prelude.{length, All}
use Rattle.std.proofs.lemmas.List.{get_or_default}
use Rattle.std.proofs.lemmas.List.Sums.{sum_by-cons, sum_by-le}
use Rattle.zr_base.specs.declared.space.DevPart.{DevPart}
use Rattle.zr_rules.specs.Places.{is_on, no_part, state_of_dev, units_of_dev}
use Rattle.zr_rules.specs.Columns.{on_units}
use Rattle.zr_space.specs.Totals.{units_ever}
use Rattle.zr_sync.specs.declared.open.OpenPool.{OpenPool}
use Rattle.zr_sync.specs.Pools.{IsOpen}
use Rattle.zr_sync.proofs.Pools.{small_device}

-- a number comes before others, where it passes
one_more : (f : ℕ → ℕ) (p : ℕ → Bool) (a : ℕ) (xs : List ℕ) → f a ≤ 2 ^ 26 → sum_by f (filter p (a ∷ xs)) ≤ 2 ^ 26 + sum_by f (filter p xs)
one_more f p a xs small = by_test (p a) refl
  where
    by_test : (b : Bool) → p a ≡ b → sum_by f (filter p (a ∷ xs)) ≤ 2 ^ 26 + sum_by f (filter p xs)
    by_test true is = rw is (let e = sum_by-cons f a (filter p xs) in omega (arith, e, small))
    by_test false is = rw is (omega arith)

sum_bound : (f : ℕ → ℕ) (p : ℕ → Bool) (a n : ℕ) → ((d : ℕ) → d < a + n → f d ≤ 2 ^ 26) → sum_by f (filter p (range_with_len a n)) ≤ n * 2 ^ 26
sum_bound f p a zero small = omega arith
sum_bound f p a (suc n) small =
    let next : (a + 1) + n ≡ a + suc n = omega arith in
    let rest = sum_bound f p (a + 1) n (λ d lt. small d (omega (arith, lt))) in
    let here = one_more f p a (range_with_len (a + 1) n) (small a (omega arith)) in
    omega (arith, rest, here)

pub few_units : (n : List ℕ) (x : OpenPool) → IsOpen n x → on_units x.space ≤ 2 ^ 31
few_units n x o =
    let devs = x.space.parts.devs in
    let all = sum_bound (units_of_dev devs) (λ d. is_on (state_of_dev devs d)) 0 (length devs) (λ d lt. small_device n x d o (let e = o.devices in omega (arith, lt, e))) in
    let count = o.devices in
    let few = o.few in
    omega (arith, all, count, few)

-- those of removed devices too
pub few_ever : (n : List ℕ) (x : OpenPool) → IsOpen n x → units_ever x.space ≤ 2 ^ 31
few_ever n x o =
    let devs = x.space.parts.devs in
    let small : All (λ (p : DevPart). p.row.units ≤ 2 ^ 26) devs = λ i e lt.
    let is = ap (λ (p : DevPart). p.row.units) (get_or_default devs i no_part e lt) in
    let here = small_device n x i o (let count = o.devices in omega (arith, lt, count)) in
    omega (arith, is, here) in
    let all = sum_by-le (λ (p : DevPart). p.row.units) (2 ^ 26) devs small in
    let count = o.devices in
    let few = o.few in
    omega (arith, all, count, few)
