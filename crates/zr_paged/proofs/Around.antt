-- The extent of a set in pages that has a unit.
use Rattle.std.proofs.Common.{◌≡◌, ℕ, ◌+◌, ◌-◌, ◌<◌, ◌≤◌, false, List, [], ◌∷◌, ◌++◌, length, Some, refl, ◌∙◌, arith}
use Rattle.std.proofs.lemmas.Grind.{common_steps}
use Rattle.zr_base.specs.declared.space.Extent.{Extent}
use Rattle.zr_base.specs.Extents.{has_unit, end_of, IsMaximal}
use Rattle.zr_base.proofs.ExtentSets.{has_unit-below, StartsAbove}
use Rattle.zr_ranges.specs.Words.{run_of}
use Rattle.zr_base.specs.Extents.{AddsUnits, HasNone}
use Rattle.zr_ranges.specs.Words.{run_of, AreSetWords, TakesFromRun}
use Rattle.zr_ranges.specs.declared.words.Words.{Words}
use Rattle.zr_ranges.proofs.Cuts.{run_of-back, run_of-front, cut_again}
use Rattle.zr_paged.specs.Runs.{start_of, stop_of}
use Rattle.zr_paged.specs.Pages.{all_of, pages_in, AreFit, ArePages, IsFront, IsPaged}
use Rattle.zr_paged.specs.declared.tree.Tree.{Tree}
use Rattle.zr_paged.proofs.Joined.{has_append, maximal_back}
use Rattle.zr_paged.proofs.Ends.{none_under, after_stop}
use Rattle.zr_paged.proofs.Sides.{all_three, split, fit_page}
use Rattle.zr_paged.proofs.Nexts.{none_behind}
use Rattle.zr_paged.proofs.Finding.{none_up}

-- nothing lies below a first extent
none_before : (v u : ℕ) (xs : List Extent) → IsMaximal xs → StartsAbove v xs → u ≤ v → has_unit xs u ≡ false
none_before v u [] m above le = refl
none_before v u (x ∷ xs) m above le = has_unit-below x.start u (x ∷ xs) (omega arith, m.1, m.2, m.3) (omega (arith, above, le))

-- where a page and those above it start above the unit, it is the affair of those below
pub run_low : (lows : List (List Extent)) (p : List Extent) (highs : List (List Extent)) (u : ℕ) → ArePages (lows ++ p ∷ highs) → u < start_of p → run_of u (all_of (lows ++ p ∷ highs)) ≡ run_of u (all_of lows)
run_low lows p highs u a lt =
    let back = maximal_back 0 (all_of lows) (p ++ all_of highs) (split lows p highs a.maximal) in
    rw (all_three lows p highs) (run_of-front u (all_of lows) (p ++ all_of highs) (under p (all_of highs) back (fit_page lows p highs a.fit).0 lt))
  where
    under : (ps cs : List Extent) → IsMaximal (ps ++ cs) → 0 < length ps → u < start_of ps → has_unit (ps ++ cs) u ≡ false
    under [] cs m some lt = absurd (omega (arith, some))
    under (x ∷ xs) cs m some lt = none_under (x ∷ (xs ++ cs)) u m (omega arith) lt

-- where it starts by the unit and ends above it, its own
pub run_page : (lows : List (List Extent)) (p : List Extent) (highs : List (List Extent)) (u : ℕ) → ArePages (lows ++ p ∷ highs) → start_of p ≤ u → u < stop_of p → run_of u (all_of (lows ++ p ∷ highs)) ≡ run_of u p
run_page lows p highs u a from to =
    let back = maximal_back 0 (all_of lows) (p ++ all_of highs) (split lows p highs a.maximal) in
    let above = after_stop p (all_of highs) back (fit_page lows p highs a.fit).0 in
    let high = none_before (stop_of p) u (all_of highs) (maximal_back 0 p (all_of highs) back) above (omega (arith, to)) in
    rw (all_three lows p highs) (run_of-back u (all_of lows) (p ++ all_of highs) (none_behind lows p highs u a (omega (arith, from))) ∙ run_of-front u p (all_of highs) high)

-- and else that of those above
pub run_high : (lows : List (List Extent)) (p : List Extent) (highs : List (List Extent)) (u : ℕ) → ArePages (lows ++ p ∷ highs) → start_of p ≤ u → stop_of p ≤ u → run_of u (all_of (lows ++ p ∷ highs)) ≡ run_of u (all_of highs)
run_high lows p highs u a from to =
    let none : has_unit (all_of lows ++ p) u ≡ false = none_up lows p highs u u a from to (omega arith) in
    let both = has_append (all_of lows) p u in
    let low : has_unit (all_of lows) u ≡ false = grind (arith, common_steps, none, both) in
    let here : has_unit p u ≡ false = grind (arith, common_steps, none, both) in
    rw (all_three lows p highs) (run_of-back u (all_of lows) (p ++ all_of highs) low ∙ run_of-back u p (all_of highs) here)

-- the set with units that came
pub paged_more : (old new : Tree) (units : ℕ) (w v : Words) (run e : Extent) → IsPaged old units w → HasNone (all_of (pages_in old)) e → 0 < e.len → AddsUnits (all_of (pages_in old)) (all_of (pages_in new)) e → AreFit (pages_in new) → IsFront new → run_of e.start (all_of (pages_in new)) ≡ Some run → end_of e ≤ end_of run → ((with without : List Extent) → AreSetWords w without → TakesFromRun with without run e → AreSetWords v with) → IsPaged new (units + e.len) v
paged_more old new units w v run e kept apart some added fit front around inside told =
    let count = added.count in let was = kept.counted in
    record {
      front_page = front;
      pages = record { fit = fit; maximal = added.maximal };
      counted = omega (arith, count, was);
      words = told _ _ kept.words (cut_again _ _ run e kept.pages.maximal apart some added around inside);
    }

-- the set without units that went
pub paged_less : (old new : Tree) (units : ℕ) (w v : Words) (run e : Extent) → IsPaged old units w → TakesFromRun (all_of (pages_in old)) (all_of (pages_in new)) run e → AreFit (pages_in new) → IsFront new → ((with without : List Extent) → AreSetWords w with → TakesFromRun with without run e → AreSetWords v without) → IsPaged new (units - e.len) v
paged_less old new units w v run e kept cut fit front told =
    let count = cut.removes.count in let was = kept.counted in
    record {
      front_page = front;
      pages = record { fit = fit; maximal = cut.removes.maximal };
      counted = omega (arith, count, was);
      words = told _ _ kept.words cut;
    }
