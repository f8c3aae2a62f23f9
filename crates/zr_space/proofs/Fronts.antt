-- The front of what is left to copy, from what is held.
use Rattle.std.proofs.Common.{◌≡◌, ℕ, ◌+◌, ◌≤◌, ◌<◌, ◌&&◌, true, false, nat_le, List, [], ◌∷◌, ◌∙◌, sym, arith, ⊎_elim}
use Rattle.std.proofs.lemmas.Bool.{cases_lt}
use Rattle.std.proofs.lemmas.Bool.Decides.{nat_tests}
use Rattle.zr_base.specs.declared.space.Extent.{Extent}
use Rattle.zr_base.specs.Extents.{has_unit, in_extent, IsMaximal, HasAll}
use Rattle.zr_base.proofs.ExtentSets.{has_unit-below}
use Rattle.zr_evac.specs.Evacuations.{IsFront}

false_true : false ≡ true → ⊥
false_true e = cc

-- no unit lies below the first extent
pub head_low : (f : Extent) (fs : List Extent) (u : ℕ) → IsMaximal (f ∷ fs) → has_unit (f ∷ fs) u ≡ true → f.start ≤ u
head_low f fs u m is =
    ⊎_elim
    (λ lt. absurd (false_true (sym (has_unit-below f.start u (f ∷ fs) (omega arith, m.1, m.2, m.3) lt) ∙ is)))
    (λ le. le)
    (cases_lt u f.start)

-- and none behind it before a gap
head_end : (f : Extent) (fs : List Extent) → IsMaximal (f ∷ fs) → has_unit (f ∷ fs) (f.start + f.len) ≡ false
head_end f fs m = let past = has_unit-below (f.start + f.len + 1) (f.start + f.len) fs m.3 (omega arith) in grind (arith, nat_tests, past)

-- the units are held and follow the frontier with nothing held between
pub record IsNextHeld (held : List Extent) (opened : ℕ) (e : Extent) : Type 0 where
  pub some : 0 < e.len
  pub above : opened ≤ e.start
  pub gap : (u : ℕ) → opened ≤ u → u < e.start → has_unit held u ≡ false
  pub covered : HasAll held e

-- what is left is what is held from the frontier on
abbrev pub IsLeft : List Extent → List Extent → ℕ → Type 0
IsLeft left held opened = (u : ℕ) → has_unit left u ≡ (has_unit held u && nat_le opened u)

pub front_is : (left held : List Extent) (opened : ℕ) (e : Extent) → IsMaximal left → IsLeft left held opened → IsNextHeld held opened e → e.len ≤ 256 → IsFront left e
front_is [] held opened e m is h short =
    let some = h.some in
    let above = h.above in
    let at : in_extent e e.start ≡ true = grind (arith, nat_tests, some) in
    let all = h.covered e.start at in
    let none = is e.start in
    absurd (grind (arith, nat_tests, all, none, above))
front_is (f ∷ fs) held opened e m is h short =
    let some = h.some in
    let above = h.above in
    let at : in_extent e e.start ≡ true = grind (arith, nat_tests, some) in
    let all = h.covered e.start at in
    let was = is e.start in
    let there : has_unit (f ∷ fs) e.start ≡ true = grind (arith, nat_tests, all, was, above) in
    let low = head_low f fs e.start m there in
    let long = m.1 in
    let first : has_unit (f ∷ fs) f.start ≡ true = grind (arith, nat_tests, long) in
    let held_first = is f.start in
    let from : opened ≤ f.start = grind (arith, nat_tests, first, held_first) in
    let start : e.start ≡ f.start =
    ⊎_elim
    (λ lt. let none = h.gap f.start from lt in absurd (grind (arith, nat_tests, first, held_first, none)))
    (λ le. omega (arith, low, le))
    (cases_lt f.start e.start) in
    record {
      some = omega arith;
      start = start;
      len =
          ⊎_elim
          (λ lt.
          let at_end : in_extent e (f.start + f.len) ≡ true = grind (arith, nat_tests, lt, start) in
          let all_end = h.covered (f.start + f.len) at_end in
          let end = head_end f fs m in
          let was_end = is (f.start + f.len) in
          absurd (grind (arith, nat_tests, all_end, end, was_end, from)))
          (λ le. le)
          (cases_lt f.len e.len);
      short = short;
    }
