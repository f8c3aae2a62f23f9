-- The entries that meet an extent stand in a row, and a free touches few pieces.
use Rattle.std.proofs.Common.{◌≡◌, ℕ, zero, suc, ◌+◌, ◌-◌, ◌*◌, ◌<◌, ◌≤◌, min, max, Bool, true, false, nat_le, nat_lt, List, [], ◌∷◌, length, take, drop, map, filter, sum_by, refl, sym, ap, subst, ◌∙◌, ⊎_elim, arith}
use Rattle.std.specs.Prelude.{if◌then◌else◌, count_by}
use Rattle.std.proofs.Math.Nat.{mul-le-mul_left, mul-le-mul_right, add-mul, mul-suc}
use Rattle.std.proofs.lemmas.Bool.{cases_lt}
use Rattle.std.proofs.lemmas.Bool.Decides.{nat_tests}
use Rattle.std.proofs.lemmas.List.Sums.{sum_by-cons, sum_by-take-drop, sum_by-take-le, sum_by_more}
use Rattle.zr_base.specs.declared.space.Dva.{Dva}
use Rattle.zr_base.specs.declared.space.Entry.{Entry}
use Rattle.zr_rules.specs.Places.{one_if, is_gone, is_leaving}
use Rattle.zr_rules.specs.Devices.{Devices, state_at}
use Rattle.zr_rules.specs.Mappings.{IsRising, IsRisingFrom, entry_at}
use Rattle.zr_rules.specs.Steps.{meets, moved_part, pieces}
use Rattle.zr_imap.specs.Searches.{moved_parts}
use Rattle.zr_imap.proofs.Searching.{entry_fits}
use Rattle.zr_chain.specs.Touches.{Splits, ends_by, begins_before}
use Rattle.zr_chain.proofs.Touched.{pieces_at}

-- what an entry adds to a sum over the parts that went
abbrev pub term : ℕ → ℕ → (Dva → ℕ) → Entry → ℕ
term u n f e = if meets u n e then f (moved_part u n e) else 0

pub sum_terms : (u n : ℕ) (f : Dva → ℕ) (es : List Entry) → sum_by f (moved_parts es u n) ≡ sum_by (term u n f) es
sum_terms u n f [] = refl
sum_terms u n f (e ∷ es) = step (meets u n e) (sum_terms u n f es) ∙ sym (sum_by-cons (term u n f) e es)
  where
    step : (b : Bool) → sum_by f (moved_parts es u n) ≡ sum_by (term u n f) es →
        sum_by f (map (moved_part u n) (if b then e ∷ filter (meets u n) es else filter (meets u n) es)) ≡ (if b then f (moved_part u n e) else 0) + sum_by (term u n f) es
    step true rest = sum_by-cons f (moved_part u n e) (moved_parts es u n) ∙ ap (λ (k : ℕ). f (moved_part u n e) + k) rest
    step false rest = omega (arith, rest)

-- ---- sums over a row

pub zero_take : (g : Entry → ℕ) (es : List Entry) (i : ℕ) → ((j : ℕ) → j < i → j < length es → g (entry_at es j) ≡ 0) → sum_by g (take i es) ≡ 0
zero_take g es zero none = refl
zero_take g [] (suc i) none = refl
zero_take g (e ∷ es) (suc i) none =
    let first = none 0 (omega arith) (omega arith) in
    let rest = zero_take g es i (λ j lt there. none (suc j) (omega (arith, lt)) (omega (arith, there))) in
    omega (arith, first, rest, sum_by-cons g e (take i es))

zero_drop : (g : Entry → ℕ) (es : List Entry) (i : ℕ) → ((j : ℕ) → i ≤ j → j < length es → g (entry_at es j) ≡ 0) → sum_by g (drop i es) ≡ 0
zero_drop g [] zero none = refl
zero_drop g [] (suc i) none = refl
zero_drop g (e ∷ es) zero none =
    let first = none 0 (omega arith) (omega arith) in
    let rest = zero_drop g es zero (λ j le there. none (suc j) (omega arith) (omega (arith, there))) in
    omega (arith, first, rest, sum_by-cons g e es)
zero_drop g (e ∷ es) (suc i) none = zero_drop g es i (λ j le there. none (suc j) (omega (arith, le)) (omega (arith, there)))

pub up_to : (g : Entry → ℕ) (es : List Entry) (i : ℕ) → ((j : ℕ) → i ≤ j → j < length es → g (entry_at es j) ≡ 0) → sum_by g (take i es) ≡ sum_by g es
up_to g es i none = omega (arith, zero_drop g es i none, sum_by-take-drop g es i)

ones : (g : Entry → ℕ) (es : List Entry) (first i : ℕ) → first ≤ i → i ≤ length es → ((j : ℕ) → j < first → g (entry_at es j) ≡ 0) → ((j : ℕ) → first ≤ j → j < i → g (entry_at es j) ≡ 1) → sum_by g (take i es) ≡ i - first
ones g es first zero le within before here = omega arith
ones g [] first (suc i) le within before here = absurd (omega (arith, within))
ones g (e ∷ es) zero (suc i) le within before here =
    let first = here 0 (omega arith) (omega arith) in
    let rest = ones g es 0 i (omega arith) (omega (arith, within)) (λ j lt. absurd (omega (arith, lt))) (λ j ge lt. here (suc j) (omega arith) (omega (arith, lt))) in
    omega (arith, first, rest, sum_by-cons g e (take i es))
ones g (e ∷ es) (suc first) (suc i) le within before here =
    let none = before 0 (omega arith) in
    let rest = ones g es first i (omega (arith, le)) (omega (arith, within)) (λ j lt. before (suc j) (omega (arith, lt))) (λ j ge lt. here (suc j) (omega (arith, ge)) (omega (arith, lt))) in
    omega (arith, none, rest, sum_by-cons g e (take i es))

-- ---- the row of the entries that meet an extent

-- the entries from the one index up to the other are those that meet it
pub record IsRow (es : List Entry) (u n first end : ℕ) : Type 0 where
  pub first_is : Splits (ends_by u) es first
  pub end_is : Splits (begins_before u n) es end

module _ (es : List Entry) (u n first end : ℕ) (row : IsRow es u n first end) where
  pub in_order : IsRising es → first ≤ end
  in_order rising = ⊎_elim (λ below. absurd (crossed below)) (λ le. le) (cases_lt end first)
    where
      crossed : end < first → ⊥
      crossed below =
          let lt : end < length es = omega (arith, below, row.first_is.within) in
          let some : 0 < (entry_at es end).len = (entry_fits 0 end es rising lt).not_empty in
          let ends : nat_le ((entry_at es end).src + (entry_at es end).len) u ≡ true = row.first_is.below end below in
          let begins : nat_lt (entry_at es end).src (u + n) ≡ false = row.end_is.from end (omega arith) lt in
          grind (arith, nat_tests, some, ends, begins)

  pub misses_before : (f : Dva → ℕ) (j : ℕ) → j < first → term u n f (entry_at es j) ≡ 0
  misses_before f j lt = let ends : nat_le ((entry_at es j).src + (entry_at es j).len) u ≡ true = row.first_is.below j lt in grind (arith, nat_tests, ends)

  pub misses_from : (f : Dva → ℕ) (j : ℕ) → end ≤ j → j < length es → term u n f (entry_at es j) ≡ 0
  misses_from f j le there = let begins : nat_lt (entry_at es j).src (u + n) ≡ false = row.end_is.from j le there in grind (arith, nat_tests, begins)

  pub meets_in : (j : ℕ) → first ≤ j → j < end → meets u n (entry_at es j) ≡ true
  meets_in j ge lt =
      let ends : nat_le ((entry_at es j).src + (entry_at es j).len) u ≡ false = row.first_is.from j ge (omega (arith, lt, row.end_is.within)) in
      let begins : nat_lt (entry_at es j).src (u + n) ≡ true = row.end_is.below j lt in
      grind (arith, nat_tests, ends, begins)

  -- the sum up to the end of the row is that of all
  pub all_row : (f : Dva → ℕ) → sum_by (term u n f) (take end es) ≡ sum_by (term u n f) es
  all_row f = up_to (term u n f) es end (misses_from f)

  -- as many entries meet the extent as the row has
  pub count_row : IsRising es → count_by (meets u n) es ≡ end - first
  count_row rising =
      sym (up_to one es end (misses_from (λ m. 1)))
      ∙ ones one es first end (in_order rising) row.end_is.within (misses_before (λ m. 1)) (λ j ge lt. ap one_if (meets_in j ge lt))
    where
      one : Entry → ℕ
      one = term u n (λ m. 1)

-- ---- few pieces

two_parts : (h a b c : ℕ) → a + b ≤ c → a * h + b * h ≤ c * h
two_parts h a b c le = omega (arith, add-mul a b h, mul-le-mul_right h le)

term_few : (h u n : ℕ) (f : Dva → ℕ) (e : Entry) (k : ℕ) → ((m : Dva) → f m ≤ max 1 m.len * h) → (meets u n e ≡ true → max 1 (moved_part u n e).len ≤ k) → term u n f e ≤ k * h
term_few h u n f e k few most = by (meets u n e) refl
  where
    by : (b : Bool) → meets u n e ≡ b → (if b then f (moved_part u n e) else 0) ≤ k * h
    by true is = omega (arith, few (moved_part u n e), mul-le-mul_right h (most is))
    by false is = omega arith

few_sum : (h u n low : ℕ) (f : Dva → ℕ) (es : List Entry) → IsRisingFrom low es → 0 < n → ((m : Dva) → f m ≤ max 1 m.len * h) → sum_by (term u n f) es ≤ (u + n - max u low) * h
few_sum h u n low f [] rising some few = omega arith
few_sum h u n low f (e ∷ es) rising some few =
    let rest = few_sum h u n (e.src + e.len) f es rising.2 some few in
    let k : ℕ = min (u + n) (e.src + e.len) - max u (max low e.src) in
    let here = term_few h u n f e k few (λ is. let is2 : meets u n e ≡ true = is in let l = rising.0 in let p = rising.1.not_empty in grind (arith, nat_tests, is2, l, p, some)) in
    let both = two_parts h k (u + n - max u (e.src + e.len)) (u + n - max u low) (let l = rising.0 in omega (arith, l)) in
    omega (arith, rest, here, both, sum_by-cons (term u n f) e es)

none_after : (u low : ℕ) (f : Dva → ℕ) (es : List Entry) → IsRisingFrom low es → u ≤ low → sum_by (term u 0 f) es ≡ 0
none_after u low f [] rising le = refl
none_after u low f (e ∷ es) rising le =
    let l = rising.0 in
    let rest = none_after u (e.src + e.len) f es rising.2 (omega (arith, l, le)) in
    let here : term u 0 f e ≡ 0 = grind (arith, nat_tests, l, le) in
    omega (arith, rest, here, sum_by-cons (term u 0 f) e es)

few_at : (h u low : ℕ) (f : Dva → ℕ) (es : List Entry) → IsRisingFrom low es → ((m : Dva) → f m ≤ max 1 m.len * h) → sum_by (term u 0 f) es ≤ 1 * h
few_at h u low f [] rising few = omega arith
few_at h u low f (e ∷ es) rising few = ⊎_elim
    (λ past.
    let rest = none_after u (e.src + e.len) f es rising.2 (omega (arith, past)) in
    let here = term_few h u 0 f e 1 few (λ is. let is2 : meets u 0 e ≡ true = is in grind (arith, nat_tests, is2)) in
    omega (arith, rest, here, sum_by-cons (term u 0 f) e es))
    (λ before.
    let rest = few_at h u (e.src + e.len) f es rising.2 few in
    let here : term u 0 f e ≡ 0 = grind (arith, nat_tests, before) in
    omega (arith, rest, here, sum_by-cons (term u 0 f) e es))
    (cases_lt u (e.src + e.len))

few_terms : (h u n : ℕ) (f : Dva → ℕ) (es : List Entry) → IsRising es → ((m : Dva) → f m ≤ max 1 m.len * h) → sum_by (term u n f) es ≤ max 1 n * h
few_terms h u zero f es rising few = few_at h u 0 f es rising few
few_terms h u (suc n) f es rising few =
    let all = few_sum h u (suc n) 0 f es rising (omega arith) few in
    let most : u + suc n - max u 0 ≤ max 1 (suc n) = omega arith in
    omega (arith, all, mul-le-mul_right h most)

some_more : (k h : ℕ) → 1 + max 1 k * h ≤ max 1 k * (h + 1)
some_more k h = omega (arith, mul-add-one (max 1 k) h)
  where
    mul-add-one : (a b : ℕ) → a * (b + 1) ≡ a * b + a
    mul-add-one a b = let next : b + 1 ≡ suc b = omega arith in rw next (mul-suc a b)

pub pieces_few : (h : ℕ) (ds : Devices) (d u n : ℕ) → ((x : ℕ) → IsRising (ds.entries x)) → pieces h ds d u n ≤ max 1 n * (h + 1)
pieces_few zero ds d u n rising = omega arith
pieces_few (suc h) ds d u n rising = by (is_gone (state_at ds d)) (is_leaving (state_at ds d)) (λ m. pieces_few h ds m.dev m.start m.len rising)
  where
    gone : ((m : Dva) → pieces_at h ds m ≤ max 1 m.len * (h + 1)) → 1 + sum_by (pieces_at h ds) (moved_parts (ds.entries d) u n) ≤ max 1 n * (suc h + 1)
    gone each =
        let all = few_terms (h + 1) u n (pieces_at h ds) (ds.entries d) (rising d) each in
        let is = sum_terms u n (pieces_at h ds) (ds.entries d) in
        let more = some_more n (h + 1) in
        let same : max 1 n * (h + 1 + 1) ≡ max 1 n * (suc h + 1) = ap (λ (k : ℕ). max 1 n * k) (omega arith) in
        omega (arith, all, is, more, same)

    leaving : 1 + count_by (meets u n) (ds.entries d) ≤ max 1 n * (suc h + 1)
    leaving =
        let all = few_terms 1 u n (λ m. 1) (ds.entries d) (rising d) (λ m. omega arith) in
        let is : count_by (meets u n) (ds.entries d) ≡ sum_by (term u n (λ m. 1)) (ds.entries d) = refl in
        let more = mul-le-mul_left (max 1 n) two in
        let double : max 1 n * 2 ≡ 2 * max 1 n = omega arith in
        omega (arith, all, is, more, double)
      where
        two : 2 ≤ suc h + 1
        two = omega arith

    one : 1 ≤ max 1 n * (suc h + 1)
    one = let more = mul-le-mul_left (max 1 n) (some (suc h)) in let same : max 1 n * 1 ≡ max 1 n = omega arith in omega (arith, more, same)
      where
        some : (k : ℕ) → 1 ≤ k + 1
        some k = omega arith

    by : (g l : Bool) → ((m : Dva) → pieces_at h ds m ≤ max 1 m.len * (h + 1)) → (if g then 1 + sum_by (pieces_at h ds) (moved_parts (ds.entries d) u n) else (if l then 1 + count_by (meets u n) (ds.entries d) else 1)) ≤ max 1 n * (suc h + 1)
    by true l each = gone each
    by false true each = leaving
    by false false each = one

pub few_pieces : (h : ℕ) (ds : Devices) (d u n : ℕ) → ((x : ℕ) → IsRising (ds.entries x)) → h ≤ 32 → pieces h ds d u n ≤ 33 * max 1 n
few_pieces h ds d u n rising few =
    let all = pieces_few h ds d u n rising in
    let most = mul-le-mul_left (max 1 n) (more few) in
    omega (arith, all, most)
  where
    more : h ≤ 32 → h + 1 ≤ 33
    more le = omega (arith, le)

-- ---- a search by halves

above_low : (low i : ℕ) (es : List Entry) → IsRisingFrom low es → i < length es → low ≤ (entry_at es i).src
above_low low i [] rising lt = absurd (omega (arith, lt))
above_low low zero (e ∷ es) rising lt = rising.0
above_low low (suc i) (e ∷ es) rising lt = let rest = above_low (e.src + e.len) i es rising.2 (omega (arith, lt)) in omega (arith, rest)

ends_rise : (low : ℕ) (es : List Entry) (i j : ℕ) → IsRisingFrom low es → i ≤ j → j < length es → (entry_at es i).src + (entry_at es i).len ≤ (entry_at es j).src + (entry_at es j).len
ends_rise low [] i j rising le lt = absurd (omega (arith, lt))
ends_rise low (e ∷ es) zero zero rising le lt = omega arith
ends_rise low (e ∷ es) zero (suc j) rising le lt = let above = above_low (e.src + e.len) j es rising.2 (omega (arith, lt)) in omega (arith, above)
ends_rise low (e ∷ es) (suc i) zero rising le lt = absurd (omega (arith, le))
ends_rise low (e ∷ es) (suc i) (suc j) rising le lt = ends_rise (e.src + e.len) es i j rising.2 (omega (arith, le)) (omega (arith, lt))

begins_rise : (low : ℕ) (es : List Entry) (i j : ℕ) → IsRisingFrom low es → i ≤ j → j < length es → (entry_at es i).src ≤ (entry_at es j).src
begins_rise low [] i j rising le lt = absurd (omega (arith, lt))
begins_rise low (e ∷ es) zero zero rising le lt = omega arith
begins_rise low (e ∷ es) zero (suc j) rising le lt = let above = above_low (e.src + e.len) j es rising.2 (omega (arith, lt)) in omega (arith, above)
begins_rise low (e ∷ es) (suc i) zero rising le lt = absurd (omega (arith, le))
begins_rise low (e ∷ es) (suc i) (suc j) rising le lt = begins_rise (e.src + e.len) es i j rising.2 (omega (arith, le)) (omega (arith, lt))

pub ended_below : (es : List Entry) (u i : ℕ) → IsRising es → i < length es → (entry_at es i).src + (entry_at es i).len ≤ u → (j : ℕ) → j < i + 1 → ends_by u (entry_at es j) ≡ true
ended_below es u i rising there ends j lt = let rise = ends_rise 0 es j i rising (omega (arith, lt)) there in grind (arith, nat_tests, rise, ends)

pub ended_from : (es : List Entry) (u i : ℕ) → IsRising es → u < (entry_at es i).src + (entry_at es i).len → (j : ℕ) → i ≤ j → j < length es → ends_by u (entry_at es j) ≡ false
ended_from es u i rising ends j le there = let rise = ends_rise 0 es i j rising le there in grind (arith, nat_tests, rise, ends)

pub begun_below : (es : List Entry) (u n i : ℕ) → IsRising es → i < length es → (entry_at es i).src < u + n → (j : ℕ) → j < i + 1 → begins_before u n (entry_at es j) ≡ true
begun_below es u n i rising there begins j lt = let rise = begins_rise 0 es j i rising (omega (arith, lt)) there in grind (arith, nat_tests, rise, begins)

pub begun_from : (es : List Entry) (u n i : ℕ) → IsRising es → u + n ≤ (entry_at es i).src → (j : ℕ) → i ≤ j → j < length es → begins_before u n (entry_at es j) ≡ false
begun_from es u n i rising begins j le there = let rise = begins_rise 0 es i j rising le there in grind (arith, nat_tests, rise, begins)

-- ---- the sum over the row, entry by entry

module _ (ds : Devices) (h d u n first end : ℕ) (rising : (x : ℕ) → IsRising (ds.entries x)) (gone : is_gone (state_at ds d) ≡ true) (row : IsRow (ds.entries d) u n first end) where
  abbrev terms : ℕ → ℕ
  terms i = sum_by (term u n (pieces_at h ds)) (take i (ds.entries d))

  all_pieces : pieces (suc h) ds d u n ≡ 1 + sum_by (term u n (pieces_at h ds)) (ds.entries d)
  all_pieces = rw gone (ap (λ (k : ℕ). 1 + k) (sum_terms u n (pieces_at h ds) (ds.entries d)))

  pub at_first : 1 ≡ 1 + terms first
  at_first = let none = zero_take (term u n (pieces_at h ds)) (ds.entries d) first (λ j lt there. misses_before (ds.entries d) u n first end row (pieces_at h ds) j lt) in omega (arith, none)

  pub at_next : (total i : ℕ) → total ≡ 1 + terms i → first ≤ i → i < end → total + pieces_at h ds (moved_part u n (entry_at (ds.entries d) i)) ≡ 1 + terms (i + 1)
  at_next total i is ge lt =
      let there : i < length (ds.entries d) = omega (arith, lt, row.end_is.within) in
      let more = sum_by_more (term u n (pieces_at h ds)) (ds.entries d) i (record { src = 0; dev = 0; dst = 0; len = 0 }) there in
      let own : term u n (pieces_at h ds) (entry_at (ds.entries d) i) ≡ pieces_at h ds (moved_part u n (entry_at (ds.entries d) i)) = rw (meets_in (ds.entries d) u n first end row i ge lt) refl in
      omega (arith, is, more, own)

  pub at_end : pieces (suc h) ds d u n ≡ 1 + terms end
  at_end = let all = all_row (ds.entries d) u n first end row (pieces_at h ds) in omega (arith, all_pieces, all)

  pub stays_few : (i : ℕ) → suc h ≤ 32 → 1 + terms i ≤ 33 * max 1 n
  stays_few i few =
      let most = few_pieces (suc h) ds d u n rising few in
      let part = sum_by-take-le (term u n (pieces_at h ds)) (ds.entries d) i in
      omega (arith, all_pieces, most, part)

-- ---- a walk over so many devices more

pub row_of : (es own : List Entry) (u n first end : ℕ) → es ≡ own → Splits (ends_by u) es first → Splits (begins_before u n) es end → IsRow own u n first end
row_of es own u n first end same ends begins = record { first_is = subst (λ (xs : List Entry). Splits (ends_by u) xs first) same ends; end_is = subst (λ (xs : List Entry). Splits (begins_before u n) xs end) same begins }

pub more_hops : (hops : ℕ) (ds : Devices) (d u n : ℕ) → (hops ≡ 0 → ⊥) → pieces hops ds d u n ≡ pieces (suc (hops - 1)) ds d u n
more_hops hops ds d u n some = let next : hops ≡ suc (hops - 1) = omega (arith, some) in ap (λ (h : ℕ). pieces h ds d u n) next

pub leaving_pieces : (h : ℕ) (ds : Devices) (d u n first end : ℕ) → is_gone (state_at ds d) ≡ false → is_leaving (state_at ds d) ≡ true → IsRising (ds.entries d) → IsRow (ds.entries d) u n first end → pieces (suc h) ds d u n ≡ 1 + (end - first)
leaving_pieces h ds d u n first end there leaves rising row = rw there rw leaves (ap (λ (k : ℕ). 1 + k) (count_row (ds.entries d) u n first end row rising))
