-- The first extent of a page comes out.
use Rattle.std.proofs.Common.{◌≡◌, ℕ, ◌+◌, ◌-◌, ◌<◌, ◌≤◌, true, false, List, [], ◌∷◌, ◌++◌, length, sym, ap, subst, ◌∙◌, arith, length-append, ⊎_elim}
use Rattle.std.specs.Prelude.{Option, None, Some, IfNone}
use Rattle.std.proofs.lemmas.Grind.{common_steps}
use Rattle.std.proofs.lemmas.Bool.{cases_lt}
use Rattle.std.proofs.lemmas.Bool.Decides.{nat_tests}
use Rattle.zr_base.specs.declared.space.Extent.{Extent}
use Rattle.zr_base.specs.Extents.{has_unit, IsMaximal, IsMaximalFrom, HasAll, RemovesUnits}
use Rattle.zr_base.proofs.ExtentSets.{has_unit-below, StartsAbove}
use Rattle.zr_paged.specs.Runs.{start_of, stop_of}
use Rattle.zr_paged.specs.Pages.{all_of, ArePages, IsClear, TakesNext}
use Rattle.zr_paged.proofs.Joined.{has_append, maximal_back, before}
use Rattle.zr_paged.proofs.Ends.{below_stop, after_stop, first_unit, none_under}
use Rattle.zr_paged.proofs.Sides.{all_three, split, fit_page, fit_back, fit_front, maximal_low, maximal_page, maximal_rest, maximal_high}
use Rattle.zr_paged.proofs.Adding.{before_all, clear_where_none}
use Rattle.zr_paged.proofs.Removing.{all_low, all_page, all_high, remove_low, remove_page, remove_high, three_of}

not_first : (xs ys : List Extent) (u : ℕ) → 0 < length xs → u < start_of xs → u < start_of (xs ++ ys)
not_first [] ys u some lt = absurd (omega (arith, some))
not_first (x ∷ xs) ys u some lt = lt

-- nothing from a page on lies below it
pub none_before : (lows : List (List Extent)) (p : List Extent) (highs : List (List Extent)) (u : ℕ) → ArePages (lows ++ p ∷ highs) → u < start_of p → has_unit (p ++ all_of highs) u ≡ false
none_before lows p highs u a lt =
    let page = fit_page lows p highs a.fit in
    none_under (p ++ all_of highs) u (maximal_rest lows p highs a.maximal) (omega (arith, length-append p (all_of highs), page.0)) (not_first p (all_of highs) u page.0 lt)

-- nothing below a page lies from its start on
pub none_behind : (lows : List (List Extent)) (p : List Extent) (highs : List (List Extent)) (u : ℕ) → ArePages (lows ++ p ∷ highs) → start_of p ≤ u + 1 → has_unit (all_of lows) u ≡ false
none_behind lows p highs u a le =
    let low : has_unit (all_of lows) u ≡ true → u + 1 < start_of p = before_all u (all_of lows) p (all_of highs) (split lows p highs a.maximal) (fit_page lows p highs a.fit).0 in
    grind (arith, common_steps, low, le)

pub next_low : (lows : List (List Extent)) (p : List Extent) (highs news : List (List Extent)) (u : ℕ) (n : Extent) → ArePages (lows ++ p ∷ highs) → TakesNext (all_of lows) (all_of news) u n → TakesNext (all_of (lows ++ p ∷ highs)) (all_of (news ++ p ∷ highs)) u n
next_low lows p highs news u n a f =
    let some : 0 < n.len = f.not_empty in
    let last : has_unit (all_of lows) (n.start + n.len - 1) ≡ true = f.covered (n.start + n.len - 1) (grind (arith, nat_tests, some)) in
    let far = before_all (n.start + n.len - 1) (all_of lows) p (all_of highs) (split lows p highs a.maximal) (fit_page lows p highs a.fit).0 last in
    let lt : n.start + n.len < start_of p = omega (arith, far, some) in
    record {
      start = f.start;
      not_empty = some;
      in_range = f.in_range;
      covered = all_low lows p highs n f.covered;
      removed = remove_low lows p highs news n a.maximal f.covered f.removed;
      gap = grind (arith, common_steps, three_of lows p highs (n.start + n.len), f.gap, has_append p (all_of highs) (n.start + n.len), none_before lows p highs (n.start + n.len) a lt);
    }

pub next_high : (lows : List (List Extent)) (p : List Extent) (highs news : List (List Extent)) (u : ℕ) (n : Extent) → ArePages (lows ++ p ∷ highs) → start_of p < u → TakesNext (all_of highs) (all_of news) u n → TakesNext (all_of (lows ++ p ∷ highs)) (all_of (lows ++ p ∷ news)) u n
next_high lows p highs news u n a lt f =
    let some : 0 < n.len = f.not_empty in
    let start : n.start ≡ u = f.start in
    let first : has_unit (all_of highs) n.start ≡ true = f.covered n.start (grind (arith, nat_tests, some)) in
    let far : stop_of p < n.start = over (all_of highs) (stop_of p) n.start (maximal_high lows p highs a.maximal) (after_stop p (all_of highs) (maximal_rest lows p highs a.maximal) (fit_page lows p highs a.fit).0) first in
    let here : has_unit p (n.start + n.len) ≡ true → n.start + n.len < stop_of p = below_stop 0 (n.start + n.len) p (maximal_page lows p highs a.maximal) in
    record {
      start = f.start;
      not_empty = some;
      in_range = f.in_range;
      covered = all_high lows p highs n f.covered;
      removed = remove_high lows p highs news n a.maximal f.covered f.removed;
      gap = grind (arith, common_steps, three_of lows p highs (n.start + n.len), f.gap, here, far, none_behind lows p highs (n.start + n.len) a (omega (arith, start, lt)));
    }
  where
    over : (xs : List Extent) (v u : ℕ) → IsMaximal xs → StartsAbove v xs → has_unit xs u ≡ true → v < u
    over [] v u m to is = absurd (cc (is))
    over (x ∷ xs) v u m to is = grind (arith, nat_tests, has_unit-below x.start u (x ∷ xs) (omega arith, m.1, m.2, m.3), is, to)

-- after the first extent of a page there is a gap
first_gap : (los ps cs : List Extent) (f : Extent) → IsMaximal (los ++ ((f ∷ ps) ++ cs)) → has_unit (los ++ ((f ∷ ps) ++ cs)) (f.start + f.len) ≡ false
first_gap los ps cs f m =
    let back : IsMaximalFrom 0 (f ∷ (ps ++ cs)) = maximal_back 0 los (f ∷ (ps ++ cs)) m in
    let after : has_unit (ps ++ cs) (f.start + f.len) ≡ false = has_unit-below (f.start + f.len + 1) (f.start + f.len) (ps ++ cs) back.3 (omega arith) in
    let low : has_unit los (f.start + f.len) ≡ true → f.start + f.len + 1 < f.start = before 0 (f.start + f.len) los f (ps ++ cs) m in
    grind (arith, nat_tests, after, low, has_append los ((f ∷ ps) ++ cs) (f.start + f.len))

pub next_page : (lows : List (List Extent)) (p : List Extent) (highs : List (List Extent)) (rest : List Extent) (u : ℕ) (n : Extent) → ArePages (lows ++ p ∷ highs) → p ≡ n ∷ rest → start_of p ≡ u → 0 < n.len → n.start + n.len ≤ 4611686018427387904 → HasAll p n → RemovesUnits p rest n → TakesNext (all_of (lows ++ p ∷ highs)) (all_of (lows ++ rest ∷ highs)) u n
next_page lows p highs rest u n a is at some fits all r = record {
  start = ap start_of (sym is) ∙ at;
  not_empty = some;
  in_range = fits;
  covered = all_page lows p highs n all;
  removed = remove_page lows p highs rest n a.maximal all r;
  gap = rw (all_three lows p highs, is) (first_gap (all_of lows) rest (all_of highs) n (subst (λ (q : List Extent). IsMaximal (all_of lows ++ (q ++ all_of highs))) is (split lows p highs a.maximal)));
}

clear_append : (xs ys : List (List Extent)) (u : ℕ) → IsClear xs u → IsClear ys u → IsClear (xs ++ ys) u
clear_append [] ys u c d = d
clear_append (x ∷ xs) ys u c d = (c.0, clear_append xs ys u c.1 d)

-- no page from one on starts below it
pub clear_under : (lows : List (List Extent)) (p : List Extent) (highs news : List (List Extent)) (u : ℕ) → ArePages (lows ++ p ∷ highs) → u < start_of p → IsClear news u → IsClear (news ++ p ∷ highs) u
clear_under lows p highs news u a lt clear =
    clear_append news (p ∷ highs) u clear (clear_where_none (p ∷ highs) u (fit_back lows (p ∷ highs) a.fit) (maximal_rest lows p highs a.maximal) (none_before lows p highs u a lt))

-- no page up to one starts above its start
pub clear_over : (lows : List (List Extent)) (p : List Extent) (highs news : List (List Extent)) (u : ℕ) → ArePages (lows ++ p ∷ highs) → start_of p < u → IsClear news u → IsClear (lows ++ p ∷ news) u
clear_over lows p highs news u a lt clear =
    clear_append lows (p ∷ news) u
    (clear_where_none lows u (fit_front lows (p ∷ highs) a.fit) (maximal_low lows p highs a.maximal) (none_behind lows p highs u a (omega (arith, lt))))
    ((λ same. absurd (omega (arith, same, lt))), clear)

pub none_then : {X : Type 0} (r : Option X) {P Q : Type 0} → IfNone r P → (P → Q) → IfNone r Q
none_then None p f = f p
none_then (Some x) p f = p

-- what is covered starts no lower than the lowest page
pub front_from : (lows : List (List Extent)) (p : List Extent) (highs : List (List Extent)) (e : Extent) → lows ≡ [] → ArePages (lows ++ p ∷ highs) → 0 < e.len → HasAll (all_of (lows ++ p ∷ highs)) e → start_of p ≤ e.start
front_from lows p highs e none a some all =
    ⊎_elim
    (λ lt.
    let there : has_unit (all_of (lows ++ p ∷ highs)) e.start ≡ true = all e.start (grind (arith, nat_tests, some)) in
    let low : has_unit (all_of lows) e.start ≡ false = ap (λ (l : List (List Extent)). has_unit (all_of l) e.start) none in
    absurd (grind (arith, common_steps, there, low, three_of lows p highs e.start, has_append p (all_of highs) e.start, none_before lows p highs e.start a lt)))
    (λ ge. ge)
    (cases_lt e.start (start_of p))

-- a page starts below its end
pub start_below : (lows : List (List Extent)) (p : List Extent) (highs : List (List Extent)) → ArePages (lows ++ p ∷ highs) → start_of p < stop_of p
start_below lows p highs a =
    let m : IsMaximal p = maximal_page lows p highs a.maximal in
    below_stop 0 (start_of p) p m (first_unit p m (fit_page lows p highs a.fit).0)

pub clear_front : (lows : List (List Extent)) (u : ℕ) → lows ≡ [] → IsClear lows u
clear_front lows u none = rw none tt

-- after the next extent nothing stands where it ended
pub clear_next : (pages news : List (List Extent)) (u v : ℕ) (n : Extent) → ArePages news → TakesNext (all_of pages) (all_of news) u n → n.start + n.len ≡ v → IsClear news v
clear_next pages news u v n a f same = clear_where_none news v a.fit a.maximal (subst (λ (w : ℕ). has_unit (all_of news) w ≡ false) same (grind (arith, common_steps, f.gap, f.removed.members (n.start + n.len))))
