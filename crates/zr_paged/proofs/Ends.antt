-- Where maximal extents begin and end.
use Rattle.std.proofs.Common.{◌≡◌, ℕ, suc, ◌+◌, ◌-◌, ◌<◌, ◌≤◌, ◌^◌, true, false, List, [], ◌∷◌, ◌++◌, length, refl, arith, ap}
use Rattle.std.proofs.lemmas.Bool.Decides.{nat_tests}
use Rattle.std.proofs.lemmas.Grind.{common_steps}
use Rattle.zr_base.specs.declared.space.Extent.{Extent}
use Rattle.zr_base.specs.Extents.{has_unit, extent_at, end_of, IsMaximal, IsMaximalFrom}
use Rattle.zr_base.proofs.ExtentSets.{has_unit-below, StartsAbove}
use Rattle.zr_paged.specs.Runs.{start_of, stop_of}
use Rattle.zr_paged.proofs.Joined.{before, maximal_front}

stop_more : (x y : Extent) (ys : List Extent) → stop_of (x ∷ y ∷ ys) ≡ stop_of (y ∷ ys)
stop_more x y ys =
    let last : length (x ∷ y ∷ ys) - 1 ≡ suc (length (y ∷ ys) - 1) = omega arith in
    ap (λ (k : ℕ). end_of (extent_at (x ∷ y ∷ ys) k)) last

stop_one : (x : Extent) → stop_of (x ∷ []) ≡ x.start + x.len
stop_one x = refl

-- no unit lies at the end or above it
pub below_stop : (low u : ℕ) (xs : List Extent) → IsMaximalFrom low xs → has_unit xs u ≡ true → u < stop_of xs
below_stop low u [] m is = absurd (cc)
below_stop low u (x ∷ []) m is = grind (arith, nat_tests, is, stop_one x)
below_stop low u (x ∷ y ∷ ys) m is =
    let rest : has_unit (y ∷ ys) u ≡ true → u < stop_of (y ∷ ys) = below_stop (x.start + x.len + 1) u (y ∷ ys) m.3 in
    let far : x.start + x.len < stop_of (y ∷ ys) = omega (arith, far_stop (x.start + x.len + 1) y ys m.3) in
    rw (stop_more x y ys) (grind (arith, nat_tests, is, rest, far))
  where
    far_stop : (low : ℕ) (y : Extent) (ys : List Extent) → IsMaximalFrom low (y ∷ ys) → low < stop_of (y ∷ ys)
    far_stop low y [] m = omega (arith, m.0, m.1, stop_one y)
    far_stop low y (z ∷ zs) m = rw (stop_more y z zs) (omega (arith, m.0, m.1, far_stop (y.start + y.len + 1) z zs m.3))

-- the last unit lies below the end
pub last_unit : (low : ℕ) (xs : List Extent) → IsMaximalFrom low xs → 0 < length xs → (low < stop_of xs) × (has_unit xs (stop_of xs - 1) ≡ true)
last_unit low [] m some = absurd (omega (arith, some))
last_unit low (x ∷ []) m some =
    let len : 0 < x.len = m.1 in
    (omega (arith, m.0, len, stop_one x), grind (arith, nat_tests, len, stop_one x))
last_unit low (x ∷ y ∷ ys) m some =
    let rest = last_unit (x.start + x.len + 1) (y ∷ ys) m.3 (omega arith) in
    rw (stop_more x y ys) (omega (arith, rest.0, m.0), grind (arith, common_steps, rest.1))

pub stop_bound : (low : ℕ) (xs : List Extent) → IsMaximalFrom low xs → stop_of xs ≤ 2 ^ 62
stop_bound low [] m = omega arith
stop_bound low (x ∷ []) m = omega (arith, m.2, stop_one x)
stop_bound low (x ∷ y ∷ ys) m = rw (stop_more x y ys) (stop_bound (x.start + x.len + 1) (y ∷ ys) m.3)

-- what stands behind extents starts above their end
pub after_stop : (xs ys : List Extent) → IsMaximal (xs ++ ys) → 0 < length xs → StartsAbove (stop_of xs) ys
after_stop xs [] m some = tt
after_stop xs (y ∷ ys) m some =
    let last = last_unit 0 xs (maximal_front 0 xs (y ∷ ys) m) some in
    omega (arith, last.0, before 0 (stop_of xs - 1) xs y ys m last.1)

-- a list starts with a unit of its set
pub first_unit : (xs : List Extent) → IsMaximal xs → 0 < length xs → has_unit xs (start_of xs) ≡ true
first_unit [] m some = absurd (omega (arith, some))
first_unit (x ∷ xs) m some =
    let len : 0 < x.len = m.1 in
    grind (arith, nat_tests, len)

-- nothing lies below the first unit
pub none_under : (xs : List Extent) (u : ℕ) → IsMaximal xs → 0 < length xs → u < start_of xs → has_unit xs u ≡ false
none_under [] u m some lt = refl
none_under (x ∷ xs) u m some lt = has_unit-below x.start u (x ∷ xs) (omega arith, m.1, m.2, m.3) lt
