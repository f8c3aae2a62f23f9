-- What is to be copied yet, counted.
use Rattle.std.proofs.Common.{◌≡◌, ℕ, zero, suc, ◌+◌, ◌-◌, ◌<◌, ◌≤◌, ◌^◌, Bool, true, false, ◌&&◌, ◌||◌, nat_le, nat_lt, max, min, List, [], ◌∷◌, ◌++◌, length, refl, ◌∙◌, sym, arith, ⊎_elim, Some}
use Rattle.std.specs.List.{sum_by}
use Rattle.std.proofs.lemmas.Bool.{cases_lt}
use Rattle.std.proofs.lemmas.Bool.Decides.{nat_tests}
use Rattle.std.proofs.lemmas.List.Sums.{sum_by-cons}
use Rattle.zr_base.specs.declared.space.Extent.{Extent}
use Rattle.zr_base.specs.declared.space.Entry.{Entry}
use Rattle.zr_base.specs.Extents.{in_extent, has_unit, part_from, first_part_from, IsMaximalFrom, IsFirstPart}
use Rattle.zr_base.proofs.ExtentSets.{has_unit-below, first_part-is}
use Rattle.zr_base.specs.declared.space.DevPart.{DevPart}
use Rattle.zr_rules.specs.Places.{count_below, is_leaving, state_of_dev}
use Rattle.zr_rules.specs.Mappings.{end_of_last}
use Rattle.zr_rules.specs.Steps.{half}
use Rattle.zr_rules.specs.Columns.{units_from}
use Rattle.zr_reckon.proofs.SetWords.{has_unit-high}
use Rattle.zr_reckon.proofs.Counting.{count_as, count_or, count_in, count_none, count_with}

-- the units of a set from one on
pub from_counted : (low n at : ℕ) (es : List Extent) → IsMaximalFrom low es → 2 ^ 62 ≤ n → sum_by (units_from at) es ≡ count_below n (λ u. has_unit es u && nat_le at u)
from_counted low n at [] m le = sym (count_none n)
from_counted low n at (e ∷ es) m le =
    let rest = from_counted (e.start + e.len + 1) n at es m.3 le in
    let split : count_below n (λ u. has_unit (e ∷ es) u && nat_le at u) ≡ count_below n (λ u. (in_extent e u && nat_le at u)) + count_below n (λ u. has_unit es u && nat_le at u) =
    count_as n (λ u. has_unit (e ∷ es) u && nat_le at u) (λ u. (in_extent e u && nat_le at u) || (has_unit es u && nat_le at u)) (λ u lt. grind (arith, nat_tests))
    ∙ count_or n (λ u. in_extent e u && nat_le at u) (λ u. has_unit es u && nat_le at u) (λ u is. let none = has_unit-below (e.start + e.len + 1) u es m.3 (grind (arith, nat_tests, is)) in grind (arith, none)) in
    let first = count_as n (λ u. in_extent e u && nat_le at u) (λ u. nat_le (max at e.start) u && nat_lt u (max at e.start + (e.start + e.len - max at e.start))) (λ u lt. grind (arith, nat_tests)) ∙ count_in n (max at e.start) (e.start + e.len - max at e.start) in
    let more = sum_by-cons (units_from at) e es in
    let bound = m.2 in
    let here : min n (max at e.start + (e.start + e.len - max at e.start)) - min n (max at e.start) ≡ units_from at e = grind (arith, nat_tests, bound, le) in
    omega (arith, rest, split, first, more, here)

-- the first part of a set from a unit on, by its units
pub front_is : (low at : ℕ) (es : List Extent) (front : Extent) → IsMaximalFrom low es → first_part_from at es ≡ Some front → IsFirstPart es at front
front_is low at [] front m is = absurd (cc)
front_is low at (e ∷ es) front m is = by_test (nat_lt at (e.start + e.len)) refl (λ later. front_is (e.start + e.len + 1) at es front m.3 later)
  where
    by_test : (b : Bool) → nat_lt at (e.start + e.len) ≡ b → (first_part_from at es ≡ Some front → IsFirstPart es at front) → IsFirstPart (e ∷ es) at front
    by_test true here tail =
        let part : part_from at e ≡ front = let x : Some (part_from at e) ≡ Some front = (rw here at is) in cc in
        let first = first_part-is low at 0 (e ∷ es) e m tt (omega arith) (grind (arith, nat_tests, here)) in
        rw (sym part) first
    by_test false here tail =
        let later : first_part_from at es ≡ Some front = rw here at is in
        let rest = tail later in
        let covered = rest.covered in
        let gap = rest.gap in
        let ends = rest.ends in
        let from = rest.from in
        let some = rest.not_empty in
        record {
          not_empty = some;
          from = from;
          covered = λ u t. let c = covered u t in grind (arith, c);
          gap = λ v ge below. let g = gap v ge below in grind (arith, nat_tests, g, here, ge);
          ends = grind (arith, nat_tests, ends, here, from, some);
        }

pub half_most : (k n : ℕ) → half k n ≤ n
half_most zero n = omega arith
half_most (suc k) n = let r = half_most k n in omega (arith, r)

pub last_end : (es : List Entry) (e : Entry) → end_of_last (es ++ e ∷ []) ≡ e.src + e.len
last_end [] e = refl
last_end (x ∷ []) e = refl
last_end (x ∷ (y ∷ ys)) e = last_end (y ∷ ys) e

-- behind a step of copying, so many fewer are left
front_copied_below : (most at n : ℕ) (es : List Extent) (front : Extent) → 2 ^ 62 ≤ most → IsMaximalFrom 0 es → IsFirstPart es at front → front.start + front.len ≤ 2 ^ 62 → n ≤ front.len → sum_by (units_from (front.start + n)) es + n ≡ sum_by (units_from at) es
front_copied_below most at n es front all m first low le =
    let from = first.from in
    let e : Extent = record { start = front.start; len = n } in
    let a = from_counted 0 most (front.start + n) es m all in
    let b = from_counted 0 most at es m all in
    let c = count_with most (λ u. has_unit es u && nat_le (front.start + n) u) (λ u. has_unit es u && nat_le at u) e (λ h. omega (arith, low, le, all))
    (λ u h. grind (arith, nat_tests, h))
    (λ u lt. one u first.gap first.covered from) in
    omega (arith, a, b, c)
  where
    one : (u : ℕ) → ((v : ℕ) → at ≤ v → v < front.start → has_unit es v ≡ false) → ((v : ℕ) → in_extent front v ≡ true → has_unit es v ≡ true) → at ≤ front.start
        → (has_unit es u && nat_le at u) ≡ ((nat_le front.start u && nat_lt u (front.start + n)) || (has_unit es u && nat_le (front.start + n) u))
    one u gap covered from = let g = gap u in let c = covered u in grind (arith, nat_tests, g, c, from, le)

front_ends : (at : ℕ) (es : List Extent) (front : Extent) → IsMaximalFrom 0 es → IsFirstPart es at front → front.start + front.len ≤ 2 ^ 62
front_ends at es front m first =
    let some = first.not_empty in
    let last = has_unit-high 0 (front.start + front.len - 1) es m in
    let top = first.covered (front.start + front.len - 1) (grind (arith, nat_tests, some)) in
    ⊎_elim
    (λ above. let high = last (omega (arith, above)) in let x = sym top ∙ high in absurd (cc))
    (λ fits. fits)
    (cases_lt (2 ^ 62) (front.start + front.len))

pub front_copied : (at n : ℕ) (es : List Extent) (front : Extent) → IsMaximalFrom 0 es → first_part_from at es ≡ Some front → n ≤ front.len → sum_by (units_from (front.start + n)) es + n ≡ sum_by (units_from at) es
front_copied at n es front m is le =
    let first = front_is 0 at es front m is in
    front_copied_below (2 ^ 62) at n es front (omega arith) m first (front_ends at es front m first) le

-- a device that is leaving is there
pub leaving_known : (devs : List DevPart) (d : ℕ) → is_leaving (state_of_dev devs d) ≡ true → d < length devs
leaving_known [] zero is = absurd (cc)
leaving_known [] (suc d) is = absurd (cc)
leaving_known (p ∷ devs) zero is = omega arith
leaving_known (p ∷ devs) (suc d) is = let r = leaving_known devs d is in omega (arith, r)
