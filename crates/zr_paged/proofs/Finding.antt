-- The first units of all pages from a unit on.
use Rattle.std.proofs.Common.{◌≡◌, ℕ, ◌+◌, ◌-◌, ◌<◌, ◌≤◌, true, false, List, [], ◌∷◌, ◌++◌, length, refl, sym, ap, subst, ◌∙◌, arith, append_assoc}
use Rattle.std.proofs.lemmas.List.{append-nil}
use Rattle.std.proofs.lemmas.Grind.{common_steps}
use Rattle.std.proofs.lemmas.Bool.Decides.{nat_tests}
use Rattle.zr_base.specs.declared.space.Extent.{Extent}
use Rattle.zr_base.specs.Extents.{has_unit, extent_at, IsMaximal, IsMaximalFrom, HasNoneFrom, IsFirstPart}
use Rattle.zr_base.proofs.ExtentSets.{has_unit-below}
use Rattle.zr_paged.specs.Runs.{start_of, stop_of}
use Rattle.zr_paged.specs.Pages.{all_of, ArePages}
use Rattle.zr_paged.proofs.Joined.{has_append, maximal_back, before, has_three}
use Rattle.zr_paged.proofs.Ends.{below_stop, last_unit}
use Rattle.zr_paged.proofs.Sides.{all_three, split, fit_page, maximal_page}
use Rattle.zr_paged.proofs.Removing.{three_of}
use Rattle.zr_paged.proofs.Nexts.{none_behind}

-- what a part has from a unit on is what all have, where what stands before it ends below the unit
part_first : (los ps cs : List Extent) (u : ℕ) (p : Extent) → IsMaximal (los ++ (ps ++ cs)) → HasNoneFrom los u → IsFirstPart ps u p → IsFirstPart (los ++ (ps ++ cs)) u p
part_first los ps cs u p m low f =
    let some : 0 < p.len = f.not_empty in
    let from : u ≤ p.start = f.from in
    let first : has_unit ps p.start ≡ true = f.covered p.start (grind (arith, nat_tests, some)) in
    let last : has_unit ps (p.start + p.len - 1) ≡ true = f.covered (p.start + p.len - 1) (grind (arith, nat_tests, some)) in
    record {
      not_empty = some;
      from = from;
      covered = λ v is. grind (arith, common_steps, has_three los ps cs v, f.covered v is);
      gap = λ v ge lt. grind (arith, common_steps, has_three los ps cs v, low v ge, f.gap v ge lt, none_after los ps cs v p.start m first (omega (arith, lt)));
      ends = grind (arith, common_steps, has_three los ps cs (p.start + p.len), low (p.start + p.len) (omega (arith, from)), f.ends, none_after los ps cs (p.start + p.len) (p.start + p.len - 1) m last (omega (arith, some)));
    }
  where
    none_after : (los ps cs : List Extent) (v w : ℕ) → IsMaximal (los ++ (ps ++ cs)) → has_unit ps w ≡ true → v ≤ w + 1 → has_unit cs v ≡ false
    none_after los ps [] v w m is le = refl
    none_after los ps (c ∷ cs) v w m is le =
        let part : IsMaximal (ps ++ c ∷ cs) = maximal_back 0 los (ps ++ c ∷ cs) m in
        let lt : w + 1 < c.start = before 0 w ps c cs part is in
        let back : IsMaximalFrom 0 (c ∷ cs) = maximal_back 0 ps (c ∷ cs) part in
        has_unit-below c.start v (c ∷ cs) (omega arith, back.1, back.2, back.3) (omega (arith, lt, le))

-- the first extent above the unit is what all have from it on, where what stands before it ends below the unit
next_first : (los : List Extent) (f : Extent) (rest : List Extent) (u : ℕ) → IsMaximal (los ++ f ∷ rest) → HasNoneFrom los u → u < f.start → IsFirstPart (los ++ f ∷ rest) u f
next_first los f rest u m low lt =
    let back : IsMaximalFrom 0 (f ∷ rest) = maximal_back 0 los (f ∷ rest) m in
    record {
      not_empty = back.1;
      from = omega (arith, lt);
      covered = λ v is. grind (arith, common_steps, has_append los (f ∷ rest) v, is);
      gap = λ v ge under. grind (arith, common_steps, has_append los (f ∷ rest) v, low v ge, has_unit-below f.start v (f ∷ rest) (omega arith, back.1, back.2, back.3) under);
      ends = grind (arith, nat_tests, has_append los (f ∷ rest) (f.start + f.len), low (f.start + f.len) (omega (arith, lt)), has_unit-below (f.start + f.len + 1) (f.start + f.len) rest back.3 (omega arith));
    }

pub first_low : (lows : List (List Extent)) (p : List Extent) (highs : List (List Extent)) (u : ℕ) (part : Extent) → ArePages (lows ++ p ∷ highs) → IsFirstPart (all_of lows) u part → IsFirstPart (all_of (lows ++ p ∷ highs)) u part
first_low lows p highs u part a f = rw (all_three lows p highs) (part_first [] (all_of lows) (p ++ all_of highs) u part (split lows p highs a.maximal) (λ v le. refl) f)

-- where the pages below have nothing from the unit on, a page above it has the first
pub first_next : (lows : List (List Extent)) (p : List Extent) (highs : List (List Extent)) (u : ℕ) → ArePages (lows ++ p ∷ highs) → HasNoneFrom (all_of lows) u → u < start_of p → IsFirstPart (all_of (lows ++ p ∷ highs)) u (extent_at p 0)
first_next lows p highs u a low lt = rw (all_three lows p highs) (first_of (all_of lows) p (all_of highs) u (split lows p highs a.maximal) low (fit_page lows p highs a.fit).0 lt)
  where
    first_of : (los ps cs : List Extent) (u : ℕ) → IsMaximal (los ++ (ps ++ cs)) → HasNoneFrom los u → 0 < length ps → u < start_of ps → IsFirstPart (los ++ (ps ++ cs)) u (extent_at ps 0)
    first_of los [] cs u m low some lt = absurd (omega (arith, some))
    first_of los (p ∷ ps) cs u m low some lt = next_first los p (ps ++ cs) u m low lt

pub first_page : (lows : List (List Extent)) (p : List Extent) (highs : List (List Extent)) (u : ℕ) (part : Extent) → ArePages (lows ++ p ∷ highs) → start_of p ≤ u → IsFirstPart p u part → IsFirstPart (all_of (lows ++ p ∷ highs)) u part
first_page lows p highs u part a from f = rw (all_three lows p highs) (part_first (all_of lows) p (all_of highs) u part (split lows p highs a.maximal) (λ v le. none_behind lows p highs v a (omega (arith, from, le))) f)

-- a page that ends above the unit has something from it on
pub page_some : (lows : List (List Extent)) (p : List Extent) (highs : List (List Extent)) (u : ℕ) → ArePages (lows ++ p ∷ highs) → u < stop_of p → HasNoneFrom p u → ⊥
page_some lows p highs u a lt none =
    let last = last_unit 0 p (maximal_page lows p highs a.maximal) (fit_page lows p highs a.fit).0 in
    absurd (grind (arith, common_steps, last.1, none (stop_of p - 1) (omega (arith, lt))))

-- what stands up to a page that ends by the unit has nothing from it on
pub none_up : (lows : List (List Extent)) (p : List Extent) (highs : List (List Extent)) (u v : ℕ) → ArePages (lows ++ p ∷ highs) → start_of p ≤ u → stop_of p ≤ u → u ≤ v → has_unit (all_of lows ++ p) v ≡ false
none_up lows p highs u v a from le at =
    let here : has_unit p v ≡ true → v < stop_of p = below_stop 0 v p (maximal_page lows p highs a.maximal) in
    grind (arith, common_steps, has_append (all_of lows) p v, here, none_behind lows p highs v a (omega (arith, from, at)), le, at)

pub first_high : (lows : List (List Extent)) (p : List Extent) (highs : List (List Extent)) (u : ℕ) (part : Extent) → ArePages (lows ++ p ∷ highs) → start_of p ≤ u → stop_of p ≤ u → IsFirstPart (all_of highs) u part → IsFirstPart (all_of (lows ++ p ∷ highs)) u part
first_high lows p highs u part a from le f =
    let same : all_of (lows ++ p ∷ highs) ≡ (all_of lows ++ p) ++ (all_of highs ++ []) = all_three lows p highs ∙ sym (append_assoc (all_of lows) p (all_of highs)) ∙ ap (λ (l : List Extent). (all_of lows ++ p) ++ l) (sym (append-nil (all_of highs))) in
    rw same (part_first (all_of lows ++ p) (all_of highs) [] u part (subst (λ (l : List Extent). IsMaximal l) same a.maximal) (λ v at. none_up lows p highs u v a from le at) f)

pub none_high_from : (lows : List (List Extent)) (p : List Extent) (highs : List (List Extent)) (u : ℕ) → ArePages (lows ++ p ∷ highs) → start_of p ≤ u → stop_of p ≤ u → HasNoneFrom (all_of highs) u → HasNoneFrom (all_of (lows ++ p ∷ highs)) u
none_high_from lows p highs u a from le none v at =
    grind (arith, common_steps, three_of lows p highs v, has_append (all_of lows) p v, none_up lows p highs u v a from le at, none v at)
