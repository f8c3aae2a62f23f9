-- Laws of tree_units.
use Rattle.std.proofs.Common.{◌≡◌, ℕ, zero, suc, ◌+◌, ◌*◌, ◌<◌, ◌≤◌, refl, arith, ap, ◌^◌, ◌⊎◌, ⊎_elim, inl, inr, lit<}
use Rattle.std.proofs.Math.Nat.{pow-le-pow_right}
use Rattle.std.specs.Int.{div_ceil}
use Rattle.std.proofs.lemmas.Bool.{lt-leb, le-leb, cases_lt}
use Rattle.zr_base.specs.Trees.{units_of_levels, tree_units, IsHeight}

-- there are fewer blocks than leaves
pub div_ceil-lt : (n : ℕ) → 1 < n → (0 < div_ceil n 32) × (2 * div_ceil n 32 ≤ n)
div_ceil-lt n h = grind arith

pub cases_le : (m n : ℕ) → (m ≤ n) ⊎ (n < m)
cases_le m n = ⊎_elim (λ lt. inr lt) (λ le. inl le) (cases_lt n m)

-- more levels than leaves change nothing
pub units_of_levels-enough : (levels more n : ℕ) → n ≤ levels → n ≤ more → units_of_levels levels n ≡ units_of_levels more n
units_of_levels-enough zero zero n le le' = refl
units_of_levels-enough zero (suc more) n le le' = rw (le-leb n 1 (omega arith), units_of_levels) refl
units_of_levels-enough (suc levels) zero n le le' = rw (le-leb n 1 (omega arith), units_of_levels) refl
units_of_levels-enough (suc levels) (suc more) n le le' =
    ⊎_elim
    (λ small. rw (le-leb n 1 small, units_of_levels) refl)
    (λ large. rw (lt-leb n 1 large, units_of_levels) (ap (λ t. n + t) (units_of_levels-enough levels more (div_ceil n 32) (omega (arith, div_ceil-lt n large)) (omega (arith, div_ceil-lt n large)))))
    (cases_le n 1)

pub tree_units-one : tree_units 1 ≡ 1
unfolding tree_units
tree_units-one = refl

pub tree_units-more : (n : ℕ) → 1 < n → tree_units n ≡ n + tree_units (div_ceil n 32)
unfolding tree_units
tree_units-more zero h = absurd (omega arith)
tree_units-more (suc k) h =
    rw (lt-leb (suc k) 1 h, units_of_levels) (ap (λ t. suc k + t) (units_of_levels-enough k (div_ceil (suc k) 32) (div_ceil (suc k) 32) (omega (arith, div_ceil-lt (suc k) h)) (omega arith)))

-- a height of 8 reaches 2 ^ 40
pub height-lt : (h : ℕ) → 32 ^ h < 2 ^ 40 → h < 8
height-lt h lt = ⊎_elim (λ below. below) (λ above. absurd (omega (arith, pow-le-pow_right {n = 32} (lit< tt) above))) (cases_lt h 8)

-- the height where the powers below it do not reach n
pub IsHeight-from : (n h : ℕ) → n ≤ 32 ^ h → ((k : ℕ) → k < h → 32 ^ k < n) → IsHeight n h
IsHeight-from n h reaches below = record {
  reaches = reaches;
  least = λ k enough. ⊎_elim (λ lt. absurd (omega (arith, below k lt))) (λ ge. ge) (cases_lt k h);
}
