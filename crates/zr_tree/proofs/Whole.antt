-- No more blocks are put than the new tree has.
use Rattle.std.proofs.Common.{◌≡◌, ◌+◌, ◌-◌, ◌/◌, ◌<◌, ◌≤◌, ℕ, zero, suc, List, [], ◌∷◌, ◌++◌, length, get_or, sym, ap, arith}
use Rattle.std.specs.Int.{div_ceil}
use Rattle.std.specs.Prelude.{All, Result}
use Rattle.std.proofs.lemmas.Grind.{div_ceil_times}
use Rattle.std.proofs.lemmas.List.Elements.{All-head, All-tail, All-nil, All-cons, All-append}
use Rattle.zr_bptr.specs.declared.Ptr.{Ptr}
use Rattle.zr_bptr.specs.declared.Ptr.TheVariants.{Hole}
use Rattle.zr_store.specs.declared.StoreErr.{StoreErr}
use Rattle.zr_store.specs.Causes.{Account, Costs, HasCause}
use Rattle.zr_store.proofs.Causes.{costs_then, costs_most, cause_then, cause_most}
use Rattle.zr_tree.specs.Trees.{AreBelow, Rises, blocks_over}

-- ---- a row

-- the block over an index below n
pub place_below : (index n : ℕ) → index < n → index / 32 < div_ceil n 32
place_below index n lt = let h = div_ceil_times n 32 (omega arith) in omega (arith, h.0, h.1, lt)

-- rising places below n are at most n
few_from : (xs : List (ℕ × Ptr)) (x : ℕ × Ptr) (n : ℕ) → Rises (x ∷ xs) → AreBelow n (x ∷ xs) → x.0 + length (x ∷ xs) ≤ n
few_from [] x n rises below = let lt = All-head (λ (change : ℕ × Ptr). change.0 < n) x [] below in omega (arith, lt)
few_from (y ∷ ys) x n rises below =
    let r = few_from ys y n rises.1 (All-tail (λ (change : ℕ × Ptr). change.0 < n) x (y ∷ ys) below) in
    let lt : x.0 < y.0 = rises.0.0 in
    omega (arith, r, lt)

pub rising_few : (xs : List (ℕ × Ptr)) (n : ℕ) → Rises xs → AreBelow n xs → length xs ≤ n
rising_few [] n rises below = omega arith
rising_few (x ∷ xs) n rises below = let h = few_from xs x n rises below in omega (arith, h)

-- one block more
pub row_below_more : (row : List (ℕ × Ptr)) (place n : ℕ) (p : Ptr) → place < n → AreBelow n row → AreBelow n (row ++ (place, p) ∷ [])
row_below_more row place n p lt below =
    All-append (λ (change : ℕ × Ptr). change.0 < n) row ((place, p) ∷ []) below
    (All-cons (λ (change : ℕ × Ptr). change.0 < n) (place, p) [] lt (All-nil (λ (change : ℕ × Ptr). change.0 < n)))

-- the row so far, and the block at a place behind it
pub next_few : (row changes : List (ℕ × Ptr)) (from place n : ℕ) → Rises row → All (λ change. change.0 < place) row → from < length changes → place ≡ (get_or changes from (0, Hole)).0 / 32 → AreBelow n changes → length row + 1 ≤ div_ceil n 32
next_few row changes from place n rises below lt place_is all =
    let few = rising_few row place rises below in
    let here = place_below (get_or changes from (0, Hole)).0 n (all from (0, Hole) lt) in
    omega (arith, few, here, place_is)

-- ---- the rows

pub over_up : (height n : ℕ) → ¬ (height ≡ 0) → blocks_over height n ≡ div_ceil n 32 + blocks_over (height - 1) (div_ceil n 32)
over_up zero n tall = absurd (tall (omega arith))
over_up (suc height) n tall = let e : suc height - 1 ≡ height = omega arith in ap (λ (k : ℕ). div_ceil n 32 + blocks_over k (div_ceil n 32)) (sym e)

pub some_over : (n : ℕ) → 0 < n → 0 < div_ceil n 32
some_over n some = place_below_some n some
  where
    place_below_some : (n : ℕ) → 0 < n → 0 < div_ceil n 32
    place_below_some n some = let h = place_below 0 n some in omega (arith, h)

module _ {a b : Account} (height n : ℕ) (tall : ¬ (height ≡ 0)) (first : Costs (div_ceil n 32) 0 a b) where
  pub row_costs : Costs (blocks_over height n) 0 a b
  row_costs = let e = over_up height n tall in costs_most (blocks_over height n) 0 (omega (arith, e)) (omega arith) first

  pub rows_costs : {c : Account} → Costs (blocks_over (height - 1) (div_ceil n 32)) 0 b c → Costs (blocks_over height n) 0 a c
  rows_costs second = let e = over_up height n tall in costs_most (blocks_over height n) 0 (omega (arith, e)) (omega arith) (costs_then first second)

  pub rows_cause : {c : Account} {T : Type 0} {r : Result T StoreErr} → HasCause (blocks_over (height - 1) (div_ceil n 32)) b c r → HasCause (blocks_over height n) a c r
  rows_cause h = let e = over_up height n tall in cause_most (blocks_over height n) (omega (arith, e)) (cause_then first h)

pub row_cause : {a b : Account} {T : Type 0} {r : Result T StoreErr} (height n : ℕ) → ¬ (height ≡ 0) → HasCause (div_ceil n 32) a b r → HasCause (blocks_over height n) a b r
row_cause height n tall h = let e = over_up height n tall in cause_most (blocks_over height n) (omega (arith, e)) h
