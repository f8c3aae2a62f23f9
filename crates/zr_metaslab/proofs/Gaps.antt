-- The gaps between the runs of a set.
use Rattle.std.proofs.Common.{◌≡◌, ℕ, ◌+◌, ◌-◌, ◌≤◌, ◌<◌, List, [], ◌∷◌, true, false, ◌||◌, Bool, length, take, zero, suc, add-one, arith, refl}
use Rattle.std.proofs.lemmas.Bool.Decides.{nat_tests}
use Rattle.zr_base.specs.declared.space.Extent.{Extent}
use Rattle.zr_base.specs.Extents.{has_unit, in_extent, extent_at, IsMaximal, IsMaximalFrom}
use Rattle.zr_base.proofs.ExtentSets.{low_le_start, extent_fits, has_unit-at}

or_swap : (x y z : Bool) → (x || (y || z)) ≡ ((x || y) || z)
or_swap true y z = refl
or_swap false y z = refl

has_suc : (i u : ℕ) (xs : List Extent) → i < length xs → has_unit (take (suc i) xs) u ≡ (has_unit (take i xs) u || in_extent (extent_at xs i) u)
has_suc i u [] lt = absurd (omega arith)
has_suc zero u (x ∷ xs) lt = grind (arith, nat_tests)
has_suc (suc i) u (x ∷ xs) lt = let rest : has_unit (take (suc i) xs) u ≡ (has_unit (take i xs) u || in_extent (extent_at xs i) u) = has_suc i u xs (omega arith) in grind (arith, nat_tests, rest)

-- one more run
pub has_more : (i u : ℕ) (xs : List Extent) → i < length xs → has_unit (take (i + 1) xs) u ≡ (has_unit (take i xs) u || in_extent (extent_at xs i) u)
has_more i u xs lt = rw add-one (has_suc i u xs lt)

-- the runs rise
rises : (low i j : ℕ) (xs : List Extent) → IsMaximalFrom low xs → i < j → j < length xs → (extent_at xs i).start + (extent_at xs i).len < (extent_at xs j).start
rises low i j [] m lt inside = absurd (omega arith)
rises low i zero (x ∷ xs) m lt inside = absurd (omega arith)
rises low zero (suc j) (x ∷ xs) m lt inside = omega (arith, low_le_start (x.start + x.len + 1) j xs (record { start = 0; len = 0 }) m.3 (omega arith))
rises low (suc i) (suc j) (x ∷ xs) m lt inside = rises (x.start + x.len + 1) i j xs m.3 (omega arith) (omega arith)

-- how far the runs before i reach
pub record IsDone (units : ℕ) (used : List Extent) (i at : ℕ) : Type 0 where
  pub below : (u : ℕ) → has_unit (take i used) u ≡ true → u < at
  pub ahead : (j : ℕ) → i ≤ j → j < length used → at ≤ (extent_at used j).start
  pub within : at ≤ units

pub nothing_done : (units : ℕ) (used : List Extent) → IsDone units used 0 0
nothing_done units used = record { below = λ u h. grind (arith, nat_tests, h); ahead = λ j ge lt. omega arith; within = omega arith }

pub end_within : (units i : ℕ) (used : List Extent) → IsMaximal used → ((u : ℕ) → has_unit used u ≡ true → u < units) → i < length used → (0 < (extent_at used i).len) × ((extent_at used i).start + (extent_at used i).len ≤ units)
end_within units i used m within lt =
    let fits = extent_fits 0 i used (record { start = 0; len = 0 }) m lt in
    let last : has_unit used ((extent_at used i).start + (extent_at used i).len - 1) ≡ true = has_unit-at i ((extent_at used i).start + (extent_at used i).len - 1) used (record { start = 0; len = 0 }) lt (grind (arith, nat_tests, fits.0)) in
    (fits.0, omega (arith, within ((extent_at used i).start + (extent_at used i).len - 1) last, fits.0))

pub more_done : (units i at : ℕ) (used : List Extent) → IsMaximal used → ((u : ℕ) → has_unit used u ≡ true → u < units) → i < length used → IsDone units used i at → IsDone units used (i + 1) ((extent_at used i).start + (extent_at used i).len)
more_done units i at used m within lt d =
    let fits = end_within units i used m within lt in
    record {
      below = λ u h. grind (arith, nat_tests, h, has_more i u used lt, d.below u, d.ahead i, fits.0);
      ahead = λ j ge inside. omega (arith, rises 0 i j used m (omega arith) inside);
      within = fits.1;
    }
