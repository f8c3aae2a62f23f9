-- An extent is added to a part of the pages.
use Rattle.std.proofs.Common.{◌≡◌, ℕ, ◌+◌, ◌<◌, ◌≤◌, true, false, ◌||◌, List, [], ◌∷◌, ◌++◌, length, min, sym, ap, subst, ◌∙◌, arith, ⊎_elim, ◌⊎◌, append_assoc}
use Rattle.std.proofs.lemmas.List.{append-nil}
use Rattle.std.proofs.lemmas.Grind.{common_steps}
use Rattle.std.proofs.lemmas.Bool.{cases_lt}
use Rattle.std.proofs.lemmas.Bool.Decides.{nat_tests}
use Rattle.zr_base.specs.declared.space.Extent.{Extent}
use Rattle.zr_base.specs.Extents.{has_unit, IsMaximal, IsMaximalFrom, HasNone, AddsUnits}
use Rattle.zr_base.proofs.ExtentSets.{has_unit-below, raised, StartsFrom, StartsAbove}
use Rattle.zr_paged.specs.Runs.{start_of, stop_of}
use Rattle.zr_paged.specs.Pages.{all_of, AreFit, ArePages, IsClear}
use Rattle.zr_paged.proofs.Joined.{has_append, count_append, maximal_back, maximal_front, before, glue, has_three}
use Rattle.zr_paged.proofs.Ends.{below_stop, after_stop, first_unit}
use Rattle.zr_paged.proofs.Sides.{all_three, split, fit_page, fit_high, maximal_page, maximal_rest, maximal_high, clear_back, some_extents, start_all}

-- where a part gains an extent, it starts no lower than its first unit or that of the extent
starts_low : (low : ℕ) (ps qs : List Extent) (e : Extent) → low ≤ start_of ps → low ≤ e.start → 0 < length ps → IsMaximal ps → AddsUnits ps qs e → StartsFrom low qs
starts_low low ps [] e from to some m a = tt
starts_low low [] (q ∷ qs) e from to some m a = absurd (omega (arith, some))
starts_low low (p ∷ ps) (q ∷ qs) e from to some m a =
    let n = a.maximal in
    let len : 0 < q.len = n.1 in
    ⊎_elim
    (λ lt.
    let first : has_unit (q ∷ qs) q.start ≡ true = grind (arith, nat_tests, len) in
    let none : has_unit (p ∷ ps) q.start ≡ false = has_unit-below p.start q.start (p ∷ ps) (omega arith, m.1, m.2, m.3) (omega (arith, lt, from)) in
    absurd (grind (arith, nat_tests, first, none, a.members q.start, lt, to)))
    (λ ge. ge)
    (cases_lt q.start low)

glue_above : (ps qs cs : List Extent) (e : Extent) → IsMaximal (ps ++ cs) → AddsUnits ps qs e → StartsAbove (e.start + e.len) cs → IsMaximal (qs ++ cs)
glue_above ps qs [] e m a to = subst (λ (es : List Extent). IsMaximal es) (sym (append-nil qs)) a.maximal
glue_above ps qs (c ∷ cs) e m a to =
    let back : IsMaximalFrom 0 (c ∷ cs) = maximal_back 0 ps (c ∷ cs) m in
    glue 0 c.start qs (c ∷ cs) a.maximal (omega arith, back.1, back.2, back.3) (omega arith)
    (λ u is.
    let old : has_unit ps u ≡ true → u + 1 < c.start = before 0 u ps c cs m in
    grind (arith, nat_tests, is, a.members u, old, to))

start_append : (low : ℕ) (qs cs : List Extent) → StartsFrom low qs → StartsFrom low cs → StartsFrom low (qs ++ cs)
start_append low [] cs from to = to
start_append low (q ∷ qs) cs from to = from

above_from : (low v : ℕ) (cs : List Extent) → StartsAbove v cs → low ≤ v → StartsFrom low cs
above_from low v [] to le = tt
above_from low v (c ∷ cs) to le = omega (arith, to, le)

pub before_all : (u : ℕ) (los ps cs : List Extent) → IsMaximal (los ++ (ps ++ cs)) → 0 < length ps → has_unit los u ≡ true → u + 1 < start_of ps
before_all u los [] cs m some is = absurd (omega (arith, some))
before_all u los (p ∷ ps) cs m some is = before 0 u los p (ps ++ cs) m is

glue_all : (los ps qs cs : List Extent) (e : Extent) → IsMaximal (los ++ (ps ++ cs)) → 0 < length ps → AddsUnits ps qs e → ((u : ℕ) → has_unit los u ≡ true → u + 1 < e.start) → StartsAbove (e.start + e.len) cs → IsMaximal (los ++ (qs ++ cs))
glue_all los ps qs cs e m some a low to =
    let part : IsMaximal (ps ++ cs) = maximal_back 0 los (ps ++ cs) m in
    let rest : IsMaximal (qs ++ cs) = glue_above ps qs cs e part a to in
    let first : StartsFrom (min e.start (start_of ps)) qs = starts_low (min e.start (start_of ps)) ps qs e (omega arith) (omega arith) some (maximal_front 0 ps cs part) a in
    let other : StartsFrom (min e.start (start_of ps)) cs = above_from (min e.start (start_of ps)) (e.start + e.len) cs to (omega arith) in
    glue 0 (min e.start (start_of ps)) los (qs ++ cs) (maximal_front 0 los (ps ++ cs) m) (raised 0 (min e.start (start_of ps)) (qs ++ cs) rest (start_append (min e.start (start_of ps)) qs cs first other)) (omega arith)
    (λ u is. omega (arith, low u is, before_all u los ps cs m some is))

-- a part gains an extent that lies between what stands before it and after it
pub adds_all : (los ps qs cs : List Extent) (e : Extent) → IsMaximal (los ++ (ps ++ cs)) → 0 < length ps → AddsUnits ps qs e → ((u : ℕ) → has_unit los u ≡ true → u + 1 < e.start) → StartsAbove (e.start + e.len) cs → AddsUnits (los ++ (ps ++ cs)) (los ++ (qs ++ cs)) e
adds_all los ps qs cs e m some a low to = record {
  members = λ u. grind (arith, common_steps, has_three los ps cs u, has_three los qs cs u, a.members u);
  count = omega (arith, count_append los (ps ++ cs), count_append ps cs, count_append los (qs ++ cs), count_append qs cs, a.count);
  maximal = glue_all los ps qs cs e m some a low to;
}

-- where an extent has none of a list and does not end where it starts, it ends below it
pub ends_under : (xs : List Extent) (e : Extent) → IsMaximal xs → 0 < length xs → e.start < start_of xs → HasNone xs e → (start_of xs ≡ e.start + e.len → ⊥) → e.start + e.len < start_of xs
ends_under xs e m some lt none other =
    let first : has_unit xs (start_of xs) ≡ true = first_unit xs m some in
    ⊎_elim
    (λ l. l)
    (λ ge.
    ⊎_elim
    (λ l. absurd (grind (arith, nat_tests, first, none (start_of xs), lt, l)))
    (λ g. absurd (other (omega (arith, g, ge))))
    (cases_lt (start_of xs) (e.start + e.len)))
    (cases_lt (e.start + e.len) (start_of xs))

starts_over : (v : ℕ) (xs ys : List Extent) → 0 < length xs → v < start_of xs → StartsAbove v (xs ++ ys)
starts_over v [] ys some lt = absurd (omega (arith, some))
starts_over v (x ∷ xs) ys some lt = lt

-- no part has a unit that all have not
pub none_low : (lows : List (List Extent)) (p : List Extent) (highs : List (List Extent)) (e : Extent) → HasNone (all_of (lows ++ p ∷ highs)) e → HasNone (all_of lows) e
none_low lows p highs e none u is =
    let three : has_unit (all_of (lows ++ p ∷ highs)) u ≡ (has_unit (all_of lows) u || (has_unit p u || has_unit (all_of highs) u)) = ap (λ (l : List Extent). has_unit l u) (all_three lows p highs) ∙ has_three (all_of lows) p (all_of highs) u in
    grind (arith, common_steps, three, none u is)

pub none_page : (lows : List (List Extent)) (p : List Extent) (highs : List (List Extent)) (e : Extent) → HasNone (all_of (lows ++ p ∷ highs)) e → HasNone p e
none_page lows p highs e none u is =
    let three : has_unit (all_of (lows ++ p ∷ highs)) u ≡ (has_unit (all_of lows) u || (has_unit p u || has_unit (all_of highs) u)) = ap (λ (l : List Extent). has_unit l u) (all_three lows p highs) ∙ has_three (all_of lows) p (all_of highs) u in
    grind (arith, common_steps, three, none u is)

pub none_high : (lows : List (List Extent)) (p : List Extent) (highs : List (List Extent)) (e : Extent) → HasNone (all_of (lows ++ p ∷ highs)) e → HasNone (all_of highs) e
none_high lows p highs e none u is =
    let three : has_unit (all_of (lows ++ p ∷ highs)) u ≡ (has_unit (all_of lows) u || (has_unit p u || has_unit (all_of highs) u)) = ap (λ (l : List Extent). has_unit l u) (all_three lows p highs) ∙ has_three (all_of lows) p (all_of highs) u in
    grind (arith, common_steps, three, none u is)

-- the pages below a node's gain an extent that starts below its page
pub add_low : (lows : List (List Extent)) (p : List Extent) (highs : List (List Extent)) (news : List (List Extent)) (e : Extent) → ArePages (lows ++ p ∷ highs) → HasNone (all_of (lows ++ p ∷ highs)) e → IsClear (lows ++ p ∷ highs) (e.start + e.len) → e.start < start_of p → 0 < length (all_of lows) → AddsUnits (all_of lows) (all_of news) e → AddsUnits (all_of (lows ++ p ∷ highs)) (all_of (news ++ p ∷ highs)) e
add_low lows p highs news e a none clear lt some adds =
    let page = fit_page lows p highs a.fit in
    let past : e.start + e.len < start_of p = ends_under p e (maximal_page lows p highs a.maximal) page.0 lt (none_page lows p highs e none) (clear_back lows (p ∷ highs) (e.start + e.len) clear).0 in
    rw (all_three lows p highs, all_three news p highs)
    (adds_all [] (all_of lows) (all_of news) (p ++ all_of highs) e (split lows p highs a.maximal) some adds (λ u is. absurd (cc (is))) (starts_over (e.start + e.len) p (all_of highs) page.0 past))

-- the pages above a node's gain an extent that starts above its page
pub add_high : (lows : List (List Extent)) (p : List Extent) (highs : List (List Extent)) (news : List (List Extent)) (e : Extent) → ArePages (lows ++ p ∷ highs) → stop_of p < e.start → 0 < length (all_of highs) → AddsUnits (all_of highs) (all_of news) e → AddsUnits (all_of (lows ++ p ∷ highs)) (all_of (lows ++ p ∷ news)) e
add_high lows p highs news e a lt some adds =
    let old : all_of (lows ++ p ∷ highs) ≡ (all_of lows ++ p) ++ (all_of highs ++ []) = all_three lows p highs ∙ sym (append_assoc (all_of lows) p (all_of highs)) ∙ ap (λ (l : List Extent). (all_of lows ++ p) ++ l) (sym (append-nil (all_of highs))) in
    let new : all_of (lows ++ p ∷ news) ≡ (all_of lows ++ p) ++ (all_of news ++ []) = all_three lows p news ∙ sym (append_assoc (all_of lows) p (all_of news)) ∙ ap (λ (l : List Extent). (all_of lows ++ p) ++ l) (sym (append-nil (all_of news))) in
    rw (old, new)
    (adds_all (all_of lows ++ p) (all_of highs) (all_of news) [] e (subst (λ (l : List Extent). IsMaximal l) old a.maximal) some adds (λ u is. under lows p highs e u a lt is) tt)
  where
    under : (lows : List (List Extent)) (p : List Extent) (highs : List (List Extent)) (e : Extent) (u : ℕ) → ArePages (lows ++ p ∷ highs) → stop_of p < e.start → has_unit (all_of lows ++ p) u ≡ true → u + 1 < e.start
    under lows p highs e u a lt is =
        let page = fit_page lows p highs a.fit in
        let here : has_unit p u ≡ true → u < stop_of p = below_stop 0 u p (maximal_page lows p highs a.maximal) in
        let low : has_unit (all_of lows) u ≡ true → u + 1 < start_of p = before_all u (all_of lows) p (all_of highs) (split lows p highs a.maximal) page.0 in
        let last : start_of p < stop_of p = below_stop 0 (start_of p) p (maximal_page lows p highs a.maximal) (first_unit p (maximal_page lows p highs a.maximal) page.0) in
        grind (arith, common_steps, has_append (all_of lows) p u, is, here, low, last, lt)

starts : (v : ℕ) (xs : List Extent) → 0 < length xs → StartsAbove v xs → v < start_of xs
starts v [] some above = absurd (omega (arith, some))
starts v (x ∷ xs) some above = above

above_of : (v : ℕ) (xs : List Extent) → v < start_of xs → StartsAbove v xs
above_of v [] lt = tt
above_of v (x ∷ xs) lt = lt

cons_nil : (h : List Extent) (hs : List (List Extent)) → h ∷ hs ≡ [] → ⊥
cons_nil h hs same = absurd (omega (arith, ap (λ (l : List (List Extent)). length l) same))

-- a node's page gains an extent that has no other place
pub add_page : (lows : List (List Extent)) (p : List Extent) (highs : List (List Extent)) (new : List Extent) (e : Extent) → ArePages (lows ++ p ∷ highs) → HasNone (all_of (lows ++ p ∷ highs)) e → IsClear (lows ++ p ∷ highs) (e.start + e.len) → (start_of p ≤ e.start) ⊎ (lows ≡ []) → (e.start ≤ stop_of p) ⊎ (highs ≡ []) → AddsUnits p new e → AddsUnits (all_of (lows ++ p ∷ highs)) (all_of (lows ++ new ∷ highs)) e
add_page lows p highs new e a none clear from to adds =
    let page = fit_page lows p highs a.fit in
    rw (all_three lows p highs, all_three lows new highs)
    (adds_all (all_of lows) p new (all_of highs) e (split lows p highs a.maximal) page.0 adds (λ u is. under lows p highs e u a from is) (over lows p highs e a none clear to))
  where
    under : (lows : List (List Extent)) (p : List Extent) (highs : List (List Extent)) (e : Extent) (u : ℕ) → ArePages (lows ++ p ∷ highs) → (start_of p ≤ e.start) ⊎ (lows ≡ []) → has_unit (all_of lows) u ≡ true → u + 1 < e.start
    under lows p highs e u a from is =
        ⊎_elim
        (λ le. omega (arith, le, before_all u (all_of lows) p (all_of highs) (split lows p highs a.maximal) (fit_page lows p highs a.fit).0 is))
        (λ none. absurd (grind (arith, common_steps, is, ap (λ (l : List (List Extent)). has_unit (all_of l) u) none)))
        from

    over : (lows : List (List Extent)) (p : List Extent) (highs : List (List Extent)) (e : Extent) → ArePages (lows ++ p ∷ highs) → HasNone (all_of (lows ++ p ∷ highs)) e → IsClear (lows ++ p ∷ highs) (e.start + e.len) → (e.start ≤ stop_of p) ⊎ (highs ≡ []) → StartsAbove (e.start + e.len) (all_of highs)
    over lows p [] e a none clear to = tt
    over lows p (h ∷ highs) e a none clear to =
        ⊎_elim
        (λ le.
        let fits = fit_high lows p (h ∷ highs) a.fit in
        let start : start_of (all_of (h ∷ highs)) ≡ start_of h = start_all h highs fits.0 in
        let some : 0 < length (all_of (h ∷ highs)) = some_extents (h ∷ highs) fits (omega arith) in
        let far : StartsAbove (stop_of p) (all_of (h ∷ highs)) = after_stop p (all_of (h ∷ highs)) (maximal_rest lows p (h ∷ highs) a.maximal) (fit_page lows p (h ∷ highs) a.fit).0 in
        let lt : e.start < start_of (all_of (h ∷ highs)) = omega (arith, le, starts (stop_of p) (all_of (h ∷ highs)) some far) in
        let other : start_of (all_of (h ∷ highs)) ≡ e.start + e.len → ⊥ = λ same. (clear_back lows (p ∷ h ∷ highs) (e.start + e.len) clear).1.0 (sym start ∙ same) in
        above_of (e.start + e.len) (all_of (h ∷ highs)) (ends_under (all_of (h ∷ highs)) e (maximal_high lows p (h ∷ highs) a.maximal) some lt (none_high lows p (h ∷ highs) e none) other))
        (λ none. absurd (cons_nil h highs none))
        to

-- no page starts where there is no unit
pub clear_where_none : (pages : List (List Extent)) (u : ℕ) → AreFit pages → IsMaximal (all_of pages) → has_unit (all_of pages) u ≡ false → IsClear pages u
clear_where_none [] u fit m none = tt
clear_where_none (p ∷ pages) u fit m none =
    let first : has_unit p (start_of p) ≡ true = first_unit p (maximal_front 0 p (all_of pages) m) fit.0 in
    let two : has_unit (p ++ all_of pages) u ≡ (has_unit p u || has_unit (all_of pages) u) = has_append p (all_of pages) u in (
      λ same. absurd (grind (arith, common_steps, two, none, first, ap (λ (v : ℕ). has_unit p v) same)),
      clear_where_none pages u fit.2 (maximal_back 0 p (all_of pages) m) (grind (arith, common_steps, two, none)),
    )

-- what has gained an extent is not empty
pub added_some : (old new : List Extent) (e : Extent) → 0 < e.len → AddsUnits old new e → 0 < length new
added_some old [] e some a = absurd (grind (arith, nat_tests, some, a.members e.start))
added_some old (x ∷ xs) e some a = omega arith
