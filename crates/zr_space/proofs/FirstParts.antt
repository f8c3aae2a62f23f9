-- The first units of a set from a unit on are told by what they are.
use Rattle.std.proofs.Common.{◌≡◌, ℕ, ◌+◌, ◌≤◌, ◌<◌, true, false, List, [], ◌∷◌, Option, Some, refl, sym, ◌∙◌, ap, arith, ⊎_elim}
use Rattle.std.proofs.lemmas.Bool.{cases_lt, le-ltb}
use Rattle.std.proofs.lemmas.Bool.Decides.{nat_tests}
use Rattle.zr_base.specs.declared.space.Extent.{Extent}
use Rattle.zr_base.specs.Extents.{in_extent, has_unit, part_from, first_part_from, IsMaximalFrom, IsFirstPart}
use Rattle.zr_base.proofs.ExtentSets.{first_part_from-at, first_part-is}

abbrev no_extent : Extent
no_extent = record { start = 0; len = 0 }

-- the one does not begin below the other
not_below : (es : List Extent) (u : ℕ) (p q : Extent) → IsFirstPart es u p → IsFirstPart es u q → q.start ≤ p.start
not_below es u p q f g = ⊎_elim
    (λ lt.
    let some : 0 < p.len = f.not_empty in
    let has = f.covered p.start (grind (arith, nat_tests, some)) in
    let gap = g.gap p.start f.from lt in
    absurd (grind (arith, has, gap)))
    (λ le. le)
    (cases_lt p.start q.start)

-- nor does it end below it
not_shorter : (es : List Extent) (u : ℕ) (p q : Extent) → IsFirstPart es u p → IsFirstPart es u q → p.start ≡ q.start → q.len ≤ p.len
not_shorter es u p q f g same = ⊎_elim
    (λ lt.
    let has = g.covered (p.start + p.len) (grind (arith, nat_tests, same, lt)) in
    let ends = f.ends in
    absurd (grind (arith, has, ends)))
    (λ le. le)
    (cases_lt p.len q.len)

extent_is : (a b : Extent) → a.start ≡ b.start → a.len ≡ b.len → a ≡ b
extent_is a b s l = ap (λ (n : ℕ). record { start = n; len = a.len }) s ∙ ap (λ (n : ℕ). record { start = b.start; len = n }) l

one_part : (es : List Extent) (u : ℕ) (p q : Extent) → IsFirstPart es u p → IsFirstPart es u q → p ≡ q
one_part es u p q f g =
    let below = not_below es u p q f g in
    let above = not_below es u q p g f in
    let start : p.start ≡ q.start = omega (arith, below, above) in
    let more = not_shorter es u p q f g start in
    let less = not_shorter es u q p g f (sym start) in
    extent_is p q start (omega (arith, more, less))

pub value_is : (low u : ℕ) (es : List Extent) (p : Extent) → IsMaximalFrom low es → IsFirstPart es u p → Some p ≡ first_part_from u es
value_is low u [] p m f = absurd (let c = f.covered p.start (let s = f.not_empty in grind (arith, nat_tests, s)) in false_true c)
  where
    false_true : false ≡ true → ⊥
    false_true e = cc
value_is low u (e ∷ es) p m f = ⊎_elim
    (λ lt. ap (λ (x : Extent). Some x) (one_part (e ∷ es) u p (part_from u e) f (first_part-is low u 0 (e ∷ es) no_extent m tt (omega arith) lt)) ∙ sym (first_part_from-at u 0 (e ∷ es) no_extent tt (omega arith) lt))
    (λ le. rw (le-ltb u (e.start + e.len) le) (value_is (e.start + e.len + 1) u es p m.3 (later le)))
    (cases_lt u (e.start + e.len))
  where
    later : e.start + e.len ≤ u → IsFirstPart es u p
    later below =
        let from = f.from in record {
          not_empty = f.not_empty;
          from = from;
          covered = λ v is. let c = f.covered v is in let out : in_extent e v ≡ false = grind (arith, nat_tests, below, from, is) in grind (arith, c, out);
          gap = λ v ge lt. let g = f.gap v ge lt in grind (arith, nat_tests, g);
          ends = let g = f.ends in grind (arith, nat_tests, g);
        }
