-- Sets that are made of their extents, and sets that lose some.
use Rattle.std.specs.Prelude.{IsTrue, false, ◌||◌}
use Rattle.std.proofs.Common.{◌≡◌, ◌≤◌, ℕ, List, [], ◌∷◌, ◌++◌, length, refl, ap, arith}
use Rattle.std.proofs.lemmas.List.{get_or_past}
use Rattle.std.proofs.lemmas.Bool.Decides.{nat_tests}
use Rattle.zr_base.specs.declared.space.Extent.{Extent}
use Rattle.zr_base.specs.Extents.{has_unit}
use Rattle.zr_ranges.specs.Ranges.{Ranges}
use Rattle.zr_import.specs.Units.{units_at, Has}

-- a device that is not there has no units
pub none_there : (sets : List Ranges) (d : ℕ) (e : Extent) → length sets ≤ d → Has sets d e → IsTrue false
none_there sets d e le has =
    let none : units_at sets d ≡ [] = ap (λ (r : Ranges). r.extents) (get_or_past sets d (record { extents = []; spare = 0 }) le) in
    let there = has.all e.start (grind (arith, nat_tests, has.some)) in
    let gone = ap (λ (es : List Extent). has_unit es e.start) none in
    cc

-- two lists have the units of both
pub has_unit-append : (xs ys : List Extent) (u : ℕ) → has_unit (xs ++ ys) u ≡ (has_unit xs u || has_unit ys u)
has_unit-append [] ys u = refl
has_unit-append (x ∷ xs) ys u = grind (arith, nat_tests, has_unit-append xs ys u)
