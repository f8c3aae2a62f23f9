-- The words of a set from which units go.
use Rattle.std.proofs.Common.{◌≡◌, ℕ, zero, suc, ◌+◌, ◌-◌, ◌<◌, ◌≤◌, ◌^◌, Bool, true, false, not, ◌&&◌, ◌||◌, ◌==◌, nat_le, List, [], ◌∷◌, ◌++◌, length, take, drop, min, get_or, Some, None, refl, ap, sym, subst, ◌∙◌, arith, ⊎_elim, if◌then◌else◌}
use Rattle.std.proofs.lemmas.Bool.{cases_lt, cases_eq, cases_Bool}
use Rattle.std.specs.Int.{div_ceil}
use Rattle.std.proofs.lemmas.Grind.{div_ceil_times}
use Rattle.std.proofs.lemmas.Bool.Decides.{nat_tests}
use Rattle.std.proofs.lemmas.List.{take-append-drop}
use Rattle.std.proofs.lemmas.List.Sums.{sum_by_more, sum_by-cons, sum_by-append}
use Rattle.zr_base.specs.declared.space.Extent.{Extent}
use Rattle.zr_base.specs.Extents.{in_extent, has_unit, end_of, extent_at, unit_count, IsMaximal, IsMaximalFrom, HasNone, AddsUnits, RemovesUnits, EndsBy, HasAll}
use Rattle.zr_base.proofs.ExtentSets.{has_unit-below, same_extents, unit_count-more, unit_count-le, extent_fits, low_le_start}
use Rattle.zr_rules.specs.Owed.{set_words, extent_words}
use Rattle.zr_ranges.specs.Words.{run_of, part_words, beside_words, TakesFromRun, AreSetWords}
use Rattle.zr_ranges.specs.declared.words.Words.{Words}
use Rattle.zr_ranges.proofs.Edits.{count_bound}

abbrev none : Extent
none = record { start = 0; len = 0 }

-- ---- words by length

unfoldable pub run_words : ℕ → ℕ → ℕ
run_words version n = if version == 1 then div_ceil n 32768 else (if nat_le n 32768 then 1 else 2)

run_words-units : (version n : ℕ) → 0 < n → run_words version n ≤ n
unfolding run_words
run_words-units version n some = ⊎_elim
    (λ one. let z = div_ceil_times n 32768 (omega arith) in grind (arith, nat_tests, one, z, some))
    (λ two. grind (arith, nat_tests, two, some))
    (cases_eq version 1)

extent_words-is : (version : ℕ) (e : Extent) → extent_words version e ≡ run_words version e.len
unfolding run_words
extent_words-is version e = refl

-- an extent has at most as many words as units
pub words_by_units : (version : ℕ) (e : Extent) → 0 < e.len → extent_words version e ≤ e.len
words_by_units version e some = rw (extent_words-is version e) (run_words-units version e.len some)

words-cons : (version : ℕ) (e : Extent) (es : List Extent) → set_words version (e ∷ es) ≡ run_words version e.len + set_words version es
words-cons version e es = sum_by-cons (extent_words version) e es ∙ ap (λ n. n + set_words version es) (extent_words-is version e)

-- no words without units, and else those of a run
part-none : (version : ℕ) → part_words version 0 ≡ 0
part-none version = refl

part-is : (version n : ℕ) → (n ≡ 0 → ⊥) → part_words version n ≡ extent_words version (record { start = 0; len = n })
part-is version n ne = grind (arith, nat_tests, ne)

part-some : (version n : ℕ) → 0 < n → part_words version n ≡ run_words version n
part-some version n some = part-is version n (λ is. omega (arith, is, some)) ∙ extent_words-is version (record { start = 0; len = n })

-- a set has at most as many words as units
pub words_at_most : (version low : ℕ) (es : List Extent) → IsMaximalFrom low es → set_words version es ≤ unit_count es
words_at_most version low [] m = omega arith
words_at_most version low (e ∷ es) m =
    let rest = words_at_most version (e.start + e.len + 1) es m.3 in
    let one = words_by_units version e m.1 in
    let more = sum_by-cons (extent_words version) e es in
    omega (arith, rest, one, more)

pub words_few : (version : ℕ) (es : List Extent) → IsMaximal es → set_words version es ≤ 2 ^ 62
words_few version es m =
    let most = words_at_most version 0 es m in
    let bound = count_bound es m in
    omega (arith, most, bound)

-- ---- what is left of a set

lowered : (low high : ℕ) (xs : List Extent) → low ≤ high → IsMaximalFrom high xs → IsMaximalFrom low xs
lowered low high [] le m = tt
lowered low high (x ∷ xs) le m = (omega (arith, m.0), m.1, m.2, m.3)

-- a list with a run before it, where that has units
record Fronted (version low start n : ℕ) (xs : List Extent) : Type 0 where
  all : List Extent
  maximal : IsMaximalFrom low all
  members : (u : ℕ) → has_unit all u ≡ (in_extent (record { start = start; len = n }) u || has_unit xs u)
  words : set_words version all ≡ part_words version n + set_words version xs

front : (version low start n : ℕ) (xs : List Extent) → low ≤ start + 1 → (0 < n → low ≤ start) → start + n ≤ 2 ^ 62 → IsMaximalFrom (start + n + 1) xs → Fronted version low start n xs
front version low start zero xs near above fits m = record {
  all = xs;
  maximal = lowered low (start + 0 + 1) xs (omega (arith, near)) m;
  members = λ u. grind (arith, nat_tests);
  words = omega (arith, part-none version);
}
front version low start (suc n) xs near above fits m =
    let e : Extent = record { start = start; len = suc n } in
    let more = words-cons version e xs in
    let is = part-some version (suc n) (omega arith) in
    record {
      all = e ∷ xs;
      maximal = (above (omega arith), omega arith, fits, m);
      members = λ u. refl;
      words = omega (arith, more, is);
    }

-- what is left of a set without units of one of its extents
record Left (version low : ℕ) (r e : Extent) (es : List Extent) : Type 0 where
  all : List Extent
  maximal : IsMaximalFrom low all
  members : (u : ℕ) → has_unit all u ≡ (has_unit es u && not (in_extent e u))
  words : set_words version all + extent_words version r ≡ set_words version es + beside_words version r e

-- the extent that has a unit starts by it, and ends behind it
run_of-has : (low u : ℕ) (es : List Extent) (r : Extent) → IsMaximalFrom low es → run_of u es ≡ Some r → (low ≤ r.start) × (r.start ≤ u) × (u < r.start + r.len) × (r.start + r.len ≤ 2 ^ 62)
run_of-has low u [] r m is = absurd (grind (arith, is))
run_of-has low u (x ∷ xs) r m is = ⊎_elim
    (λ yes.
    let same : x ≡ r = grind (arith, is, yes) in
    let x0 = m.0 in let x2 = m.2 in
    subst (λ (t : Extent). (low ≤ t.start) × (t.start ≤ u) × (u < t.start + t.len) × (t.start + t.len ≤ 2 ^ 62)) same
    (x0, grind (arith, nat_tests, yes), grind (arith, nat_tests, yes), x2))
    (λ no.
    let there : run_of u xs ≡ Some r = grind (arith, is, no) in
    let rest = run_of-has (x.start + x.len + 1) u xs r m.3 there in
    let x0 = m.0 in
    (omega (arith, rest.0, x0), rest.1, rest.2, rest.3))
    (cases_Bool (in_extent x u))

left : (version low : ℕ) (r e : Extent) (es : List Extent) → IsMaximalFrom low es → 0 < e.len → run_of e.start es ≡ Some r → e.start + e.len ≤ r.start + r.len → Left version low r e es
left version low r e [] m some is ends = absurd (grind (arith, is))
left version low r e (x ∷ xs) m some is ends = ⊎_elim
    (λ yes.
    let same : r ≡ x = grind (arith, is, yes) in
    let has = run_of-has low e.start (x ∷ xs) r m is in
    let starts : x.start ≤ e.start = rw same at has.1 in
    let stops : e.start + e.len ≤ x.start + x.len = rw same at ends in
    let x0 = m.0 in let x2 = m.2 in
    let right = front version (e.start + 1) (e.start + e.len) (x.start + x.len - (e.start + e.len)) xs (omega (arith, some)) (λ k. omega (arith, some)) (omega (arith, stops, x2)) (lowered _ (x.start + x.len + 1) xs (omega (arith, stops)) m.3) in
    let all = front version low x.start (e.start - x.start) right.all (omega (arith, x0)) (λ k. x0) (omega (arith, starts, stops, x2)) (lowered _ (e.start + 1) right.all (omega (arith, starts)) right.maximal) in
    let w = all.words in let v = right.words in
    let c = words-cons version x xs in
    let one = extent_words-is version x in
    subst (λ (t : Extent). Left version low t e (x ∷ xs)) (sym same)
    (record {
      all = all.all;
      maximal = all.maximal;
      members = λ u. let a = all.members u in let b = right.members u in let o = has_unit-below (x.start + x.len + 1) u xs m.3 in grind (arith, nat_tests, a, b, o, starts, stops, some);
      words = omega (arith, w, v, c, one);
    }))
    (λ no.
    let there : run_of e.start xs ≡ Some r = grind (arith, is, no) in
    let has = run_of-has (x.start + x.len + 1) e.start xs r m.3 there in
    let rest = left version (x.start + x.len + 1) r e xs m.3 some there ends in
    let w = rest.words in
    let c = words-cons version x xs in
    let d = words-cons version x rest.all in
    let low_r = has.0 in let s_r = has.1 in
    record {
      all = x ∷ rest.all;
      maximal = (m.0, m.1, m.2, rest.maximal);
      members = λ u. let a = rest.members u in grind (arith, nat_tests, a, low_r, s_r);
      words = omega (arith, w, c, d);
    })
    (cases_Bool (in_extent x e.start))

-- a set without units of a run has its words but those of the run, and those of what is left beside them
pub cut_words : (version : ℕ) (es fs : List Extent) (r e : Extent) → TakesFromRun es fs r e → set_words version fs + extent_words version r ≡ set_words version es + beside_words version r e
cut_words version es fs r e cut =
    let l = left version 0 r e es cut.maximal cut.not_empty cut.around cut.inside in
    let same : l.all ≡ fs = same_extents 0 0 l.all fs l.maximal cut.removes.maximal (λ u. l.members u ∙ sym (cut.removes.members u)) in
    let words : set_words version l.all + extent_words version r ≡ set_words version es + beside_words version r e = l.words in
    rw same at words

-- in the second form and later
later : (version : ℕ) → (version ≡ 1 → ⊥) → (es : List Extent) → set_words version es ≡ set_words 2 es
later version ne [] = refl
later version ne (e ∷ es) =
    let rest = later version ne es in
    let a = sum_by-cons (extent_words version) e es in
    let b = sum_by-cons (extent_words 2) e es in
    let is : extent_words version e ≡ extent_words 2 e = grind (arith, nat_tests, ne) in
    omega (arith, rest, a, b, is)

pub words_by_version : (version : ℕ) (w : Words) (es : List Extent) → AreSetWords w es → ((version ≡ 1 → ⊥) → w.second ≡ set_words version es) × (version ≡ 1 → w.first ≡ set_words version es)
words_by_version version w es are = ((λ ne. are.second ∙ sym (later version ne es)), (λ is. rw is are.first))

-- the words of a run that units come to, or go from, fit
pub record Fit (version words : ℕ) (run e : Extent) : Type 0 where
  pub starts : run.start ≤ e.start
  pub ends : end_of e ≤ end_of run
  pub some : 0 < run.len
  pub fits : end_of run ≤ 2 ^ 62
  pub few : words ≤ 2 ^ 62

fit : (version : ℕ) (all es fs : List Extent) (run e : Extent) → IsMaximal all → TakesFromRun es fs run e → Fit version (set_words version all) run e
fit version all es fs run e m cut =
    let has = run_of-has 0 e.start es run cut.maximal cut.around in
    let some = cut.not_empty in
    let inside = cut.inside in
    let a = has.1 in let b = has.2 in
    record { starts = a; ends = inside; some = omega (arith, a, b); fits = has.3; few = words_few version all m }

pub fit_old : (version : ℕ) (es fs : List Extent) (run e : Extent) → TakesFromRun es fs run e → Fit version (set_words version es) run e
fit_old version es fs run e cut = fit version es es fs run e cut.maximal cut

pub fit_new : (version : ℕ) (es fs : List Extent) (run e : Extent) → TakesFromRun es fs run e → Fit version (set_words version fs) run e
fit_new version es fs run e cut = fit version fs es fs run e cut.removes.maximal cut

-- ---- one more extent

pub words_more : (version : ℕ) (es : List Extent) (i : ℕ) → i < length es → set_words version (take (i + 1) es) ≡ set_words version (take i es) + extent_words version (get_or es i none)
words_more version es i lt = sum_by_more (extent_words version) es i none lt

pub words_most : (version : ℕ) (es : List Extent) (i : ℕ) → IsMaximal es → i < length es → extent_words version (get_or es i none) + unit_count (take i es) ≤ unit_count (take (i + 1) es)
words_most version es i m lt =
    let fits = extent_fits 0 i es none m lt in
    let w = words_by_units version (get_or es i none) fits.0 in
    let c = unit_count-more i es none lt in
    omega (arith, w, c)

pub count_at_most : (es : List Extent) (i : ℕ) → IsMaximal es → unit_count (take i es) ≤ 2 ^ 62
count_at_most es i m = let le = unit_count-le 0 i es m in omega (arith, le)

pub words_split : (version n : ℕ) (es : List Extent) → set_words version (take n es) + set_words version (drop n es) ≡ set_words version es
words_split version n es =
    let one = sum_by-append (extent_words version) (take n es) (drop n es) in
    let is = ap (set_words version) (take-append-drop n es) in
    omega (arith, one, is)

-- ---- the extent that has a unit

pub run_of-at : (u i : ℕ) (es : List Extent) (d : Extent) → EndsBy u (take i es) → i < length es → (get_or es i d).start ≤ u → u < (get_or es i d).start + (get_or es i d).len → run_of u es ≡ Some (get_or es i d)
run_of-at u i [] d by lt starts ends = absurd (omega (arith, lt))
run_of-at u zero (x ∷ xs) d by lt starts ends = grind (arith, nat_tests, starts, ends)
run_of-at u (suc i) (x ∷ xs) d by lt starts ends =
    let rest = run_of-at u i xs d by.1 (omega (arith, lt)) starts ends in
    let b = by.0 in
    grind (arith, nat_tests, rest, b)

run_of-below : (low u : ℕ) (es : List Extent) → IsMaximalFrom low es → u < low → run_of u es ≡ None
run_of-below low u [] m lt = refl
run_of-below low u (x ∷ xs) m lt =
    let rest = run_of-below (x.start + x.len + 1) u xs m.3 (omega (arith, lt, m.0)) in
    let x0 = m.0 in
    grind (arith, nat_tests, rest, x0, lt)

-- no extent has a unit between two, or behind the last
pub run_of-gap : (low u i : ℕ) (es : List Extent) (d : Extent) → IsMaximalFrom low es → EndsBy u (take i es) → (i < length es → u < (get_or es i d).start) → run_of u es ≡ None
run_of-gap low u i [] d m by gap = refl
run_of-gap low u zero (x ∷ xs) d m by gap =
    let above : u < x.start = gap (omega arith) in
    let rest = run_of-below (x.start + x.len + 1) u xs m.3 (omega (arith, above)) in
    grind (arith, nat_tests, rest, above)
run_of-gap low u (suc i) (x ∷ xs) d m by gap =
    let rest = run_of-gap (x.start + x.len + 1) u i xs d m.3 by.1 (λ lt. gap (omega (arith, lt))) in
    let b = by.0 in
    grind (arith, nat_tests, rest, b)

holder_from : (low i : ℕ) (es : List Extent) (e d : Extent) → IsMaximalFrom low es → i < length es → 0 < e.len → (get_or es i d).start ≤ e.start → e.start + e.len ≤ (get_or es i d).start + (get_or es i d).len → run_of e.start es ≡ Some (get_or es i d)
holder_from low i [] e d m lt some starts ends = absurd (omega (arith, lt))
holder_from low zero (x ∷ xs) e d m lt some starts ends = grind (arith, nat_tests, starts, ends, some)
holder_from low (suc i) (x ∷ xs) e d m lt some starts ends =
    let rest = holder_from (x.start + x.len + 1) i xs e d m.3 (omega (arith, lt)) some starts ends in
    let above = low_le_start (x.start + x.len + 1) i xs d m.3 (omega (arith, lt)) in
    grind (arith, nat_tests, rest, above, starts)

-- where an extent has all units of another that is not empty, it is the one that has its first unit
pub run_of-holder : (i : ℕ) (es : List Extent) (e : Extent) → IsMaximal es → i < length es → 0 < e.len → (extent_at es i).start ≤ e.start → end_of e ≤ end_of (extent_at es i) → run_of e.start es ≡ Some (extent_at es i)
run_of-holder i es e m lt some starts ends = holder_from 0 i es e none m lt some starts ends

back : (a b t : Bool) → t ≡ (a || b) → (b ≡ true → a ≡ false) → a ≡ (t && not b)
back true true t is apart = absurd (grind (arith, apart refl))
back true false t is apart = grind (arith, is)
back false true t is apart = grind (arith, is)
back false false t is apart = grind (arith, is)

-- units that came are in a run from which they could go again
pub cut_again : (old new : List Extent) (run e : Extent) → IsMaximal old → HasNone old e → 0 < e.len → AddsUnits old new e → run_of e.start new ≡ Some run → end_of e ≤ end_of run → TakesFromRun new old run e
cut_again old new run e m apart some added is inside = record {
  maximal = added.maximal;
  not_empty = some;
  around = is;
  inside = inside;
  removes = record {
    members = λ u. let a = added.members u in let n = apart u in back (has_unit old u) (in_extent e u) (has_unit new u) a n;
    count = sym added.count;
    maximal = m;
  };
}

-- the front of an extent goes
pub front_cut : (xs ys : List Extent) (i n : ℕ) (run e : Extent) → IsMaximal xs → i < length xs → extent_at xs i ≡ run → e.start ≡ (extent_at xs i).start → e.len ≡ min n (extent_at xs i).len → 0 < e.len → RemovesUnits xs ys e → TakesFromRun xs ys run e
front_cut xs ys i n run e m lt value start len some removed =
    let is : run_of e.start xs ≡ Some (extent_at xs i) = run_of-holder i xs e m lt some (omega (arith, start)) (omega (arith, start, len)) in
    let inside : end_of e ≤ end_of (extent_at xs i) = omega (arith, start, len) in
    record {
      maximal = m;
      not_empty = some;
      around = rw value at is;
      inside = rw value at inside;
      removes = removed;
    }

-- ---- numbers of words

pub takes_words : (version w : ℕ) (with without : List Extent) (run e : Extent) → w ≡ set_words version with → TakesFromRun with without run e → (extent_words version run ≤ w + beside_words version run e) × (w + beside_words version run e - extent_words version run ≡ set_words version without)
takes_words version w with without run e is cut =
    let c = cut_words version with without run e cut in
    (omega (arith, c, is), omega (arith, c, is))

pub gives_words : (version w : ℕ) (with without : List Extent) (run e : Extent) → w ≡ set_words version without → TakesFromRun with without run e → (beside_words version run e ≤ w + extent_words version run) × (w + extent_words version run - beside_words version run e ≡ set_words version with)
gives_words version w with without run e is cut =
    let c = cut_words version with without run e cut in
    (omega (arith, c, is), omega (arith, c, is))

pub words_by_count : (version n : ℕ) (w : Words) (es : List Extent) → IsMaximal es → AreSetWords w es → ((es : List Extent) → AreSetWords w es → n ≡ set_words version es) → n ≤ unit_count es
words_by_count version n w es m are told =
    let is = told es are in
    let most = words_at_most version 0 es m in
    omega (arith, is, most)

pub settled_cut : (xs ys : List Extent) (to : ℕ) (run e : Extent) → to ≡ 0 → TakesFromRun xs ys run e → TakesFromRun xs (drop to ys) run e
settled_cut xs ys to run e zero_is cut = subst (λ t. TakesFromRun xs (drop t ys) run e) (sym zero_is) cut

-- ---- of extents in two lists

pub run_of-none : (u : ℕ) (es : List Extent) → has_unit es u ≡ false → run_of u es ≡ None
run_of-none u [] out = refl
run_of-none u (x ∷ xs) out = let rest = run_of-none u xs in grind (arith, out, rest)

pub run_of-back : (u : ℕ) (xs ys : List Extent) → has_unit xs u ≡ false → run_of u (xs ++ ys) ≡ run_of u ys
run_of-back u [] ys out = refl
run_of-back u (x ∷ xs) ys out = let rest = run_of-back u xs ys in grind (arith, out, rest)

pub run_of-front : (u : ℕ) (xs ys : List Extent) → has_unit ys u ≡ false → run_of u (xs ++ ys) ≡ run_of u xs
run_of-front u [] ys out = run_of-none u ys out
run_of-front u (x ∷ xs) ys out = let rest = run_of-front u xs ys out in grind (arith, rest)

-- a unit of the set is in one of its extents, which ends where the set has no unit
pub run_of-some : (u : ℕ) (es : List Extent) → has_unit es u ≡ true → run_of u es ≡ None → ⊥
run_of-some u [] here is = absurd (grind (arith, here))
run_of-some u (x ∷ xs) here is = ⊎_elim
    (λ first. grind (arith, is, first))
    (λ later. run_of-some u xs (grind (arith, here, later)) (grind (arith, is, later)))
    (cases_Bool (in_extent x u))

pub run_of-ends : (low u : ℕ) (es : List Extent) (r : Extent) → IsMaximalFrom low es → run_of u es ≡ Some r → has_unit es (r.start + r.len) ≡ false
run_of-ends low u [] r m is = refl
run_of-ends low u (x ∷ xs) r m is = ⊎_elim
    (λ yes.
    let same : x ≡ r = grind (arith, is, yes) in
    let after = has_unit-below (x.start + x.len + 1) (x.start + x.len) xs m.3 (omega arith) in
    let there : has_unit (x ∷ xs) (x.start + x.len) ≡ false = grind (arith, nat_tests, after) in
    subst (λ (t : Extent). has_unit (x ∷ xs) (t.start + t.len) ≡ false) same there)
    (λ no.
    let there : run_of u xs ≡ Some r = grind (arith, is, no) in
    let rest = run_of-ends (x.start + x.len + 1) u xs r m.3 there in
    let has = run_of-has (x.start + x.len + 1) u xs r m.3 there in
    let low_r = has.0 in
    grind (arith, nat_tests, rest, low_r))
    (cases_Bool (in_extent x u))

-- .. and has all units of an extent from the unit on that the set has
pub run_of-covers : (es : List Extent) (e r : Extent) → IsMaximal es → HasAll es e → run_of e.start es ≡ Some r → end_of e ≤ end_of r
run_of-covers es e r m all is =
    let has = run_of-has 0 e.start es r m is in
    let gap = run_of-ends 0 e.start es r m is in
    let at = all (r.start + r.len) in
    let under = has.2 in
    ⊎_elim
    (λ (lt : end_of r < end_of e). absurd (grind (arith, nat_tests, at, gap, under, lt)))
    (λ ge. ge)
    (cases_lt (end_of r) (end_of e))

-- an extent below all others is one of its own
pub first_cut : (es : List Extent) (e : Extent) → IsMaximal (e ∷ es) → TakesFromRun (e ∷ es) es e e
first_cut es e m =
    let some = m.1 in
    record {
      maximal = m;
      not_empty = some;
      around = grind (arith, nat_tests, some);
      inside = omega arith;
      removes = record {
        members = λ u. let b = has_unit-below (e.start + e.len + 1) u es m.3 in grind (arith, nat_tests, b);
        count = omega arith;
        maximal = lowered 0 (e.start + e.len + 1) es (omega arith) m.3;
      };
    }
