-- An extent is taken out of a part of the pages.
use Rattle.std.proofs.Common.{◌≡◌, ℕ, ◌+◌, ◌<◌, ◌≤◌, true, ◌||◌, List, [], ◌∷◌, ◌++◌, length, sym, ap, subst, ◌∙◌, arith, append_assoc, ⊎_elim}
use Rattle.std.proofs.lemmas.List.{append-nil}
use Rattle.std.proofs.lemmas.Grind.{common_steps}
use Rattle.std.proofs.lemmas.Bool.{cases_lt}
use Rattle.std.proofs.lemmas.Bool.Decides.{nat_tests}
use Rattle.zr_base.specs.declared.space.Extent.{Extent}
use Rattle.zr_base.specs.Extents.{has_unit, IsMaximal, HasAll, RemovesUnits}
use Rattle.zr_paged.specs.Runs.{start_of, stop_of}
use Rattle.zr_paged.specs.Pages.{all_of, ArePages}
use Rattle.zr_base.proofs.ExtentSets.{StartsAbove}
use Rattle.zr_paged.proofs.Joined.{has_three, removes_all, in_part, before}
use Rattle.zr_paged.proofs.Ends.{below_stop, after_stop, none_under}
use Rattle.zr_paged.proofs.Sides.{all_three, split, fit_page, maximal_page, maximal_rest}

pub three_of : (lows : List (List Extent)) (p : List Extent) (highs : List (List Extent)) (u : ℕ) → has_unit (all_of (lows ++ p ∷ highs)) u ≡ (has_unit (all_of lows) u || (has_unit p u || has_unit (all_of highs) u))
three_of lows p highs u = ap (λ (l : List Extent). has_unit l u) (all_three lows p highs) ∙ has_three (all_of lows) p (all_of highs) u

-- what a part has all have
pub all_page : (lows : List (List Extent)) (p : List Extent) (highs : List (List Extent)) (e : Extent) → HasAll p e → HasAll (all_of (lows ++ p ∷ highs)) e
all_page lows p highs e all u is = grind (arith, common_steps, three_of lows p highs u, all u is)

pub all_low : (lows : List (List Extent)) (p : List Extent) (highs : List (List Extent)) (e : Extent) → HasAll (all_of lows) e → HasAll (all_of (lows ++ p ∷ highs)) e
all_low lows p highs e all u is = grind (arith, common_steps, three_of lows p highs u, all u is)

pub all_high : (lows : List (List Extent)) (p : List Extent) (highs : List (List Extent)) (e : Extent) → HasAll (all_of highs) e → HasAll (all_of (lows ++ p ∷ highs)) e
all_high lows p highs e all u is = grind (arith, common_steps, three_of lows p highs u, all u is)

starts_over : (v : ℕ) (xs ys : List Extent) → 0 < length xs → v < start_of xs → StartsAbove v (xs ++ ys)
starts_over v [] ys some lt = absurd (omega (arith, some))
starts_over v (x ∷ xs) ys some lt = lt

first : (l : Extent) (los cs : List Extent) (e : Extent) → IsMaximal (l ∷ (los ++ cs)) → 0 < e.len → HasAll (l ∷ (los ++ cs)) e → StartsAbove e.start cs → l.start ≤ e.start
first l los cs e m some all to =
    let there : has_unit (l ∷ (los ++ cs)) e.start ≡ true = all e.start (grind (arith, nat_tests, some)) in
    ⊎_elim (λ lt. absurd (grind (arith, nat_tests, there, none_under (l ∷ (los ++ cs)) e.start m (omega arith) lt))) (λ ge. ge) (cases_lt e.start l.start)

-- an extent that starts below a node's page lies in the pages below
pub has_low : (lows : List (List Extent)) (p : List Extent) (highs : List (List Extent)) (e : Extent) → ArePages (lows ++ p ∷ highs) → 0 < e.len → HasAll (all_of (lows ++ p ∷ highs)) e → e.start < start_of p → HasAll (all_of lows) e
has_low lows p highs e a some all lt =
    part (all_of lows) (p ++ all_of highs) e (split lows p highs a.maximal) some (subst (λ (l : List Extent). HasAll l e) (all_three lows p highs) all) (starts_over e.start p (all_of highs) (fit_page lows p highs a.fit).0 lt)
  where
    part : (los cs : List Extent) (e : Extent) → IsMaximal (los ++ cs) → 0 < e.len → HasAll (los ++ cs) e → StartsAbove e.start cs → HasAll los e
    part [] [] e m some all to u is = all u is
    part [] (c ∷ cs) e m some all to u is = absurd (grind (arith, nat_tests, some, all e.start, none_under (c ∷ cs) e.start m (omega arith) to))
    part (l ∷ los) cs e m some all to u is = in_part [] (l ∷ los) cs e m some all (omega arith) (first l los cs e m some all to) to u is

-- one that starts at the end of its page or above it lies in the pages above
pub has_high : (lows : List (List Extent)) (p : List Extent) (highs : List (List Extent)) (e : Extent) → ArePages (lows ++ p ∷ highs) → HasAll (all_of (lows ++ p ∷ highs)) e → start_of p ≤ e.start → stop_of p ≤ e.start → HasAll (all_of highs) e
has_high lows p highs e a all from le u is =
    let page = fit_page lows p highs a.fit in
    let ge : e.start ≤ u = grind (arith, nat_tests, is) in
    let here : has_unit p u ≡ true → u < stop_of p = below_stop 0 u p (maximal_page lows p highs a.maximal) in
    let low : has_unit (all_of lows) u ≡ true → u + 1 < start_of p = under u (all_of lows) p (all_of highs) (split lows p highs a.maximal) page.0 in
    grind (arith, common_steps, three_of lows p highs u, all u is, here, low, ge, le, from)
  where
    under : (u : ℕ) (los ps cs : List Extent) → IsMaximal (los ++ (ps ++ cs)) → 0 < length ps → has_unit los u ≡ true → u + 1 < start_of ps
    under u los [] cs m some is = absurd (omega (arith, some))
    under u los (p ∷ ps) cs m some is = before 0 u los p (ps ++ cs) m is

-- one that starts in its page lies there
pub has_page : (lows : List (List Extent)) (p : List Extent) (highs : List (List Extent)) (e : Extent) → ArePages (lows ++ p ∷ highs) → 0 < e.len → HasAll (all_of (lows ++ p ∷ highs)) e → start_of p ≤ e.start → e.start < stop_of p → HasAll p e
has_page lows p highs e a some all from lt =
    let page = fit_page lows p highs a.fit in
    in_part (all_of lows) p (all_of highs) e (split lows p highs a.maximal) some (subst (λ (l : List Extent). HasAll l e) (all_three lows p highs) all) page.0 from (lower (stop_of p) e.start (all_of highs) (after_stop p (all_of highs) (maximal_rest lows p highs a.maximal) page.0) lt)
  where
    lower : (v w : ℕ) (cs : List Extent) → StartsAbove v cs → w < v → StartsAbove w cs
    lower v w [] to lt = tt
    lower v w (c ∷ cs) to lt = omega (arith, to, lt)

pub remove_low : (lows : List (List Extent)) (p : List Extent) (highs : List (List Extent)) (news : List (List Extent)) (e : Extent) → IsMaximal (all_of (lows ++ p ∷ highs)) → HasAll (all_of lows) e → RemovesUnits (all_of lows) (all_of news) e → RemovesUnits (all_of (lows ++ p ∷ highs)) (all_of (news ++ p ∷ highs)) e
remove_low lows p highs news e m all r =
    rw (all_three lows p highs, all_three news p highs) (removes_all [] (all_of lows) (all_of news) (p ++ all_of highs) e (split lows p highs m) r all)

pub remove_high : (lows : List (List Extent)) (p : List Extent) (highs : List (List Extent)) (news : List (List Extent)) (e : Extent) → IsMaximal (all_of (lows ++ p ∷ highs)) → HasAll (all_of highs) e → RemovesUnits (all_of highs) (all_of news) e → RemovesUnits (all_of (lows ++ p ∷ highs)) (all_of (lows ++ p ∷ news)) e
remove_high lows p highs news e m all r =
    let old : all_of (lows ++ p ∷ highs) ≡ (all_of lows ++ p) ++ (all_of highs ++ []) = all_three lows p highs ∙ sym (append_assoc (all_of lows) p (all_of highs)) ∙ ap (λ (l : List Extent). (all_of lows ++ p) ++ l) (sym (append-nil (all_of highs))) in
    let new : all_of (lows ++ p ∷ news) ≡ (all_of lows ++ p) ++ (all_of news ++ []) = all_three lows p news ∙ sym (append_assoc (all_of lows) p (all_of news)) ∙ ap (λ (l : List Extent). (all_of lows ++ p) ++ l) (sym (append-nil (all_of news))) in
    rw (old, new) (removes_all (all_of lows ++ p) (all_of highs) (all_of news) [] e (subst (λ (l : List Extent). IsMaximal l) old m) r all)

pub remove_page : (lows : List (List Extent)) (p : List Extent) (highs : List (List Extent)) (new : List Extent) (e : Extent) → IsMaximal (all_of (lows ++ p ∷ highs)) → HasAll p e → RemovesUnits p new e → RemovesUnits (all_of (lows ++ p ∷ highs)) (all_of (lows ++ new ∷ highs)) e
remove_page lows p highs new e m all r =
    rw (all_three lows p highs, all_three lows new highs) (removes_all (all_of lows) p new (all_of highs) e (split lows p highs m) r all)

pub none_in_nothing : (e : Extent) → 0 < e.len → HasAll [] e → ⊥
none_in_nothing e some all = absurd (cc (all e.start (grind (arith, nat_tests, some))))
