-- Where nothing of a device is to be copied yet, no units are left to copy.
use Rattle.std.proofs.Common.{◌≡◌, ℕ, ◌<◌, Bool, true, false, nat_le, List, [], ◌∷◌, length, refl, arith, if◌then◌else◌}
use Rattle.std.specs.List.{sum_by, range_with_len}
use Rattle.std.proofs.lemmas.Bool.Decides.{nat_tests}
use Rattle.std.proofs.lemmas.List.Sums.{sum_by-cons}
use Rattle.zr_base.specs.declared.space.Extent.{Extent}
use Rattle.zr_base.specs.Extents.{has_unit, in_extent}
use Rattle.zr_rules.specs.Columns.{uncopied_units, units_from}
use Rattle.zr_rules.specs.Places.{is_leaving, part_of}
use Rattle.zr_rules.specs.Space.{Space, frontier}
use Rattle.zr_space.specs.Plans.{IsCopied}

-- no unit of the extent is there or above
extent_none : (at : ℕ) (e : Extent) → ((u : ℕ) → in_extent e u ≡ true → nat_le at u ≡ false) → units_from at e ≡ 0
extent_none at e none = by_first (in_extent e e.start) refl
  where
    by_at : (b : Bool) → in_extent e at ≡ b → nat_le at e.start ≡ false → units_from at e ≡ 0
    by_at true inside below = let never = none at inside in absurd (grind (arith, nat_tests, never))
    by_at false outside below = grind (arith, nat_tests, outside, below)

    by_first : (b : Bool) → in_extent e e.start ≡ b → units_from at e ≡ 0
    by_first true here = by_at (in_extent e at) refl (none e.start here)
    by_first false empty = grind (arith, nat_tests, empty)

-- nor of a set
set_none : (at : ℕ) (es : List Extent) → ((u : ℕ) → has_unit es u ≡ true → nat_le at u ≡ false) → sum_by (units_from at) es ≡ 0
set_none at [] none = refl
set_none at (e ∷ es) none =
    let first = extent_none at e (λ u is. none u (grind (arith, is))) in
    let rest = set_none at es (λ u is. none u (grind (arith, is))) in
    let all = sum_by-cons (units_from at) e es in
    omega (arith, first, rest, all)

sum_none : (f : ℕ → ℕ) (xs : List ℕ) → ((x : ℕ) → f x ≡ 0) → sum_by f xs ≡ 0
sum_none f [] none = refl
sum_none f (x ∷ xs) none = let first = none x in let rest = sum_none f xs none in let all = sum_by-cons f x xs in omega (arith, first, rest, all)

none_left : (s : Space) → IsCopied s → uncopied_units s ≡ 0
none_left s copied = sum_none (λ (d : ℕ). if is_leaving (part_of s.parts.devs d).row.state then sum_by (units_from (frontier s d)) (part_of s.parts.devs d).held else 0) (range_with_len 0 (length s.parts.devs)) (λ d. device d (is_leaving (part_of s.parts.devs d).row.state) refl)
  where
    device : (d : ℕ) (b : Bool) → is_leaving (part_of s.parts.devs d).row.state ≡ b → (if b then sum_by (units_from (frontier s d)) (part_of s.parts.devs d).held else 0) ≡ 0
    device d false is = refl
    device d true is = set_none (frontier s d) (part_of s.parts.devs d).held (λ u held. let left = copied d u in grind (arith, is, held, left))

pub not_copied : (s : Space) → 0 < uncopied_units s → IsCopied s → ⊥
not_copied s some copied = let none = none_left s copied in omega (arith, some, none)
