-- What is left of a list of maximal extents without its first ones.
use Rattle.std.proofs.Common.{◌≡◌, ℕ, zero, suc, ◌+◌, ◌-◌, ◌<◌, ◌≤◌, ◌^◌, List, [], ◌∷◌, length, take, drop, set, Some, refl, ap, sym, subst, ◌∙◌, arith, add-zero, length-drop}
use Rattle.std.proofs.lemmas.List.{drop-drop, drop-set-add}
use Rattle.zr_base.specs.declared.space.Extent.{Extent}
use Rattle.zr_base.specs.Extents.{IsMaximal, IsMaximalFrom, HasNone, AddsUnits, RemovesUnits, extent_at, end_of, unit_count}
use Rattle.zr_rules.specs.Owed.{set_words}
use Rattle.zr_ranges.specs.Words.{run_of, AreSetWords, TakesFromRun}
use Rattle.zr_ranges.specs.declared.words.Words.{Words}
use Rattle.zr_ranges.proofs.Cuts.{cut_again, words_split}
use Rattle.zr_base.proofs.ExtentSets.{unit_count-more, unit_count-le}
use Rattle.zr_ranges.specs.Ranges.{IsKept}
use Rattle.zr_ranges.proofs.Edits.{removes-whole, removes-front}

abbrev none : Extent
none = record { start = 0; len = 0 }

-- one extent more is counted, and all fit
pub count_more : (i : ℕ) (xs : List Extent) → IsMaximal xs → i < length xs → (unit_count (take (i + 1) xs) ≡ unit_count (take i xs) + (extent_at xs i).len) × (unit_count (take (i + 1) xs) ≤ 2 ^ 62)
count_more i xs m inside = (unit_count-more i xs none inside, omega (arith, unit_count-le 0 (i + 1) xs m))

lower : (low : ℕ) (xs : List Extent) → IsMaximalFrom low xs → IsMaximalFrom 0 xs
lower low [] m = tt
lower low (x ∷ xs) m = (omega arith, m.1, m.2, m.3)

maximal_take_from : (low n : ℕ) (xs : List Extent) → IsMaximalFrom low xs → IsMaximalFrom low (take n xs)
maximal_take_from low zero xs m = tt
maximal_take_from low (suc n) [] m = tt
maximal_take_from low (suc n) (x ∷ xs) m = (m.0, m.1, m.2, maximal_take_from (x.start + x.len + 1) n xs m.3)

maximal_drop_from : (low n : ℕ) (xs : List Extent) → IsMaximalFrom low xs → IsMaximalFrom 0 (drop n xs)
maximal_drop_from low zero xs m = lower low xs m
maximal_drop_from low (suc n) [] m = tt
maximal_drop_from low (suc n) (x ∷ xs) m = maximal_drop_from (x.start + x.len + 1) n xs m.3

-- the first extents, and the others, are maximal too
pub maximal_take : (n : ℕ) (xs : List Extent) → IsMaximal xs → IsMaximal (take n xs)
maximal_take n xs m = maximal_take_from 0 n xs m

pub maximal_drop : (n : ℕ) (xs : List Extent) → IsMaximal xs → IsMaximal (drop n xs)
maximal_drop n xs m = maximal_drop_from 0 n xs m

pub count_split : (n : ℕ) (xs : List Extent) → unit_count (take n xs) + unit_count (drop n xs) ≡ unit_count xs
count_split zero xs = omega arith
count_split (suc n) [] = omega arith
count_split (suc n) (x ∷ xs) = omega (arith, count_split n xs)

-- the first extent goes, or its front
pub removes_first : (from : ℕ) (xs : List Extent) (r : Extent) → IsMaximal (drop from xs) → from < length xs → extent_at (drop from xs) 0 ≡ r → 0 < r.len → RemovesUnits (drop from xs) (drop (from + 1) xs) r
removes_first from xs r m inside is some =
    subst (λ (l : List Extent). RemovesUnits (drop from xs) l r) (drop-drop 1 from xs)
    (removes-whole (drop from xs) r r 0 (record { maximal = m; not_empty = some; index = omega (arith, length-drop from xs); value = is }) refl refl)

drop_set : (from : ℕ) (xs : List Extent) (e : Extent) → drop from (set xs from e) ≡ set (drop from xs) 0 e
drop_set from xs e = ap (λ i. drop from (set xs i e)) (sym (add-zero from)) ∙ drop-set-add from xs 0 e

pub removes_front : (from n : ℕ) (xs : List Extent) (r : Extent) → IsMaximal (drop from xs) → from < length xs → extent_at (drop from xs) 0 ≡ r → n < r.len → RemovesUnits (drop from xs) (drop from (set xs from (record { start = r.start + n; len = r.len - n }))) (record { start = r.start; len = n })
removes_front from n xs r m inside is lt =
    subst (λ (l : List Extent). RemovesUnits (drop from xs) l (record { start = r.start; len = n })) (sym (drop_set from xs (record { start = r.start + n; len = r.len - n })))
    (removes-front (drop from xs) r n 0 m (omega (arith, length-drop from xs)) is lt)

-- the set without its first extents
pub kept_without : (from units n count : ℕ) (w v : Words) (xs : List Extent) → IsKept xs from units w → n ≤ length (drop from xs) → count ≡ unit_count (take n (drop from xs)) → v.first ≡ w.first - set_words 1 (take n (drop from xs)) → v.second ≡ w.second - set_words 2 (take n (drop from xs)) → IsKept xs (from + n) (units - count) v
kept_without from units n count w v xs kept few counted first second =
    let same : drop n (drop from xs) ≡ drop (from + n) xs = drop-drop n from xs in
    let w1 = words_split 1 n (drop from xs) in
    let w2 = words_split 2 n (drop from xs) in
    record {
      within = omega (arith, length-drop from xs, kept.within);
      maximal = subst (λ (l : List Extent). IsMaximal l) same (maximal_drop n (drop from xs) kept.maximal);
      counted = subst (λ (l : List Extent). units - count ≡ unit_count l) same (omega (arith, count_split n (drop from xs), kept.counted, counted));
      words = subst (λ (l : List Extent). AreSetWords v l) same (record { first = omega (arith, w1, first, kept.words.first); second = omega (arith, w2, second, kept.words.second) });
    }

-- the first extents have no more words than all
pub words_fewer : (version n : ℕ) (xs : List Extent) → set_words version (take n xs) ≤ set_words version xs
words_fewer version n xs = let w = words_split version n xs in omega (arith, w)

-- the set with units that came
pub kept_more : (xs ys : List Extent) (from to units : ℕ) (w v : Words) (run e : Extent) → IsKept xs from units w → to ≡ 0 → HasNone (drop from xs) e → 0 < e.len → AddsUnits (drop from xs) ys e → run_of e.start ys ≡ Some run → end_of e ≤ end_of run → ((with without : List Extent) → AreSetWords w without → TakesFromRun with without run e → AreSetWords v with) → IsKept ys to (units + e.len) v
kept_more xs ys from to units w v run e kept zero_is apart some added around inside told =
    let count = added.count in let was = kept.counted in
    subst (λ t. IsKept ys t (units + e.len) v) (sym zero_is)
    (record {
      within = omega arith;
      maximal = added.maximal;
      counted = omega (arith, count, was);
      words = told ys (drop from xs) kept.words (cut_again (drop from xs) ys run e kept.maximal apart some added around inside);
    })

-- the set without units that went
pub kept_less : (xs ys : List Extent) (from to units : ℕ) (w v : Words) (run e : Extent) → IsKept xs from units w → to ≤ length ys → TakesFromRun (drop from xs) (drop to ys) run e → ((with without : List Extent) → AreSetWords w with → TakesFromRun with without run e → AreSetWords v without) → IsKept ys to (units - e.len) v
kept_less xs ys from to units w v run e kept within cut told =
    let count = cut.removes.count in let was = kept.counted in
    record {
      within = within;
      maximal = cut.removes.maximal;
      counted = omega (arith, count, was);
      words = told (drop from xs) (drop to ys) kept.words cut;
    }
