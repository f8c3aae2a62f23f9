-- Counting units by a test.
use Rattle.std.proofs.Common.{◌≡◌, ℕ, zero, suc, ◌+◌, ◌-◌, ◌*◌, ◌/◌, ◌<◌, ◌≤◌, ◌^◌, min, Bool, true, false, ◌&&◌, ◌||◌, nat_le, nat_lt, List, [], ◌∷◌, ◌++◌, length, take, drop, set, get_or, refl, ◌∙◌, ap, arith}
use Rattle.std.proofs.lemmas.Bool.Decides.{nat_tests}
use Rattle.std.proofs.lemmas.List.Sums.{sum_by-cons}
use Rattle.std.proofs.Math.Nat.{div-le_of_le-mul}
use Rattle.zr_base.specs.declared.space.Extent.{Extent}
use Rattle.zr_base.specs.declared.space.Entry.{Entry}
use Rattle.zr_base.specs.Extents.{in_extent, has_unit, unit_count, IsMaximalFrom, IsMaximal}
use Rattle.zr_base.proofs.ExtentSets.{has_unit-below}
use Rattle.zr_rules.specs.Places.{one_if, count_below}
use Rattle.zr_rules.specs.Mappings.{entry_at, in_source, has_source, mapped_units, IsRisingFrom, IsRising}
use Rattle.zr_rules.specs.Condense.{folded, fresh_units}
use Rattle.zr_obsolete.specs.Obsolete.{LiesIn}

pub count-le : (n : ℕ) (test : ℕ → Bool) → count_below n test ≤ n
count-le zero test = omega arith
count-le (suc n) test = omega (arith, count-le n test, one-le (test n))
  where
    one-le : (b : Bool) → one_if b ≤ 1
    one-le true = omega arith
    one-le false = omega arith

-- numbers at which the test fails count nothing ..
pub count-gap : (a k : ℕ) (test : ℕ → Bool) → ((j : ℕ) → a ≤ j → j < a + k → test j ≡ false) → count_below (a + k) test ≡ count_below a test
count-gap a zero test none = ap (λ (n : ℕ). count_below n test) (let is : a + 0 ≡ a = omega arith in is)
count-gap a (suc k) test none =
    let next : a + suc k ≡ suc (a + k) = omega arith in
    ap (λ (n : ℕ). count_below n test) next ∙ (rw (none (a + k) (omega arith) (omega arith)) (omega (arith, count-gap a k test (λ j from lt. none j from (omega arith)))))

-- .. and those at which it holds count each
pub count-run : (a k : ℕ) (test : ℕ → Bool) → ((j : ℕ) → a ≤ j → j < a + k → test j ≡ true) → count_below (a + k) test ≡ count_below a test + k
count-run a zero test all = ap (λ (n : ℕ). count_below n test) (let is : a + 0 ≡ a = omega arith in is) ∙ (let same : count_below a test ≡ count_below a test + 0 = omega arith in same)
count-run a (suc k) test all =
    let next : a + suc k ≡ suc (a + k) = omega arith in
    ap (λ (n : ℕ). count_below n test) next ∙ (rw (all (a + k) (omega arith) (omega arith)) (omega (arith, count-run a k test (λ j from lt. all j from (omega arith)))))

-- tests that never hold together
pub count-or : (n : ℕ) (a b : ℕ → Bool) → ((u : ℕ) → a u ≡ true → b u ≡ false) → count_below n (λ u. a u || b u) ≡ count_below n a + count_below n b
count-or zero a b apart = refl
count-or (suc n) a b apart = omega (arith, count-or n a b apart, both (a n) (b n) (apart n))
  where
    both : (x y : Bool) → (x ≡ true → y ≡ false) → one_if (x || y) ≡ one_if x + one_if y
    both true true apart = absurd (let h = apart refl in cc)
    both true false apart = refl
    both false true apart = refl
    both false false apart = refl

pub count-more : (n : ℕ) (a b : ℕ → Bool) → ((u : ℕ) → a u ≡ true → b u ≡ true) → count_below n a ≤ count_below n b
count-more zero a b h = omega arith
count-more (suc n) a b h = omega (arith, count-more n a b h, both (a n) (b n) (h n))
  where
    both : (x y : Bool) → (x ≡ true → y ≡ true) → one_if x ≤ one_if y
    both true true h = omega arith
    both true false h = absurd (let k = h refl in cc)
    both false true h = omega arith
    both false false h = omega arith

-- the numbers of a run below a bound
pub count-in : (n start len : ℕ) → count_below n (λ u. nat_le start u && nat_lt u (start + len)) ≡ min n (start + len) - min n start
count-in zero start len = omega arith
count-in (suc n) start len = grind (arith, nat_tests, count-in n start len)

count-none : (n : ℕ) → count_below n (λ u. false) ≡ 0
count-none zero = refl
count-none (suc n) = omega (arith, count-none n)

-- a set has as many units as its extents together
pub count-set : (low n : ℕ) (es : List Extent) → IsMaximalFrom low es → 2 ^ 62 ≤ n → count_below n (has_unit es) ≡ unit_count es
count-set low n [] m le = count-none n
count-set low n (e ∷ es) m le =
    count-or n (in_extent e) (has_unit es) (λ u here. has_unit-below (e.start + e.len + 1) u es m.3 (below u here))
    ∙ omega (arith, count-in n e.start e.len, count-set (e.start + e.len + 1) n es m.3 le, m.2)
  where
    below : (u : ℕ) → in_extent e u ≡ true → u < e.start + e.len + 1
    below u here = grind (arith, nat_tests)

source-below : (low u : ℕ) (xs : List Entry) → IsRisingFrom low xs → u < low → has_source xs u ≡ false
source-below low u [] m h = refl
source-below low u (x ∷ xs) m h = grind (arith, nat_tests, source-below (x.src + x.len) u xs m.2 (omega arith))

pub count-sources : (low n : ℕ) (xs : List Entry) → IsRisingFrom low xs → 2 ^ 62 ≤ n → count_below n (has_source xs) ≡ mapped_units xs
count-sources low n [] m le = count-none n
count-sources low n (x ∷ xs) m le =
    let ends : x.src + x.len ≤ 2 ^ 62 = m.1.source in
    count-or n (in_source x) (has_source xs) (λ u here. source-below (x.src + x.len) u xs m.2 (below u here))
    ∙ omega (arith, count-in n x.src x.len, count-sources (x.src + x.len) n xs m.2 le, ends, sum_by-cons (λ (e : Entry). e.len) x xs)
  where
    below : (u : ℕ) → in_source x u ≡ true → u < x.src + x.len
    below u here = grind (arith, nat_tests)

-- fresh units that have entries are no more than the mapping has
pub fresh-few : (n : ℕ) (fresh : List Extent) (entries : List Entry) → IsMaximal fresh → IsRising entries → 2 ^ 62 ≤ n → LiesIn fresh entries → unit_count fresh ≤ mapped_units entries
fresh-few n fresh entries m r le within = omega (arith, count-set 0 n fresh m le, count-sources 0 n entries r le, count-more n (has_unit fresh) (has_source entries) within)

-- the units of a source up to one below which no more are fresh ..
pub gap_to : (fresh : List Extent) (src at to : ℕ) → src ≤ at → at ≤ to → ((v : ℕ) → at ≤ v → v < to → has_unit fresh v ≡ false)
    → count_below (to - src) (λ k. has_unit fresh (src + k)) ≡ count_below (at - src) (λ k. has_unit fresh (src + k))
gap_to fresh src at to low high none =
    let is : to - src ≡ (at - src) + (to - at) = omega arith in
    ap (λ (n : ℕ). count_below n (λ k. has_unit fresh (src + k))) is
    ∙ count-gap (at - src) (to - at) (λ k. has_unit fresh (src + k)) (λ j from lt. none (src + j) (omega arith) (omega arith))

-- .. and up to the end of a run that is
pub run_to : (fresh : List Extent) (src at start n : ℕ) → src ≤ at → at ≤ start → ((v : ℕ) → at ≤ v → v < start → has_unit fresh v ≡ false)
    → ((v : ℕ) → start ≤ v → v < start + n → has_unit fresh v ≡ true)
    → count_below (start + n - src) (λ k. has_unit fresh (src + k)) ≡ count_below (at - src) (λ k. has_unit fresh (src + k)) + n
run_to fresh src at start n low high none all =
    let is : start + n - src ≡ (start - src) + n = omega arith in
    let gap = gap_to fresh src at start low high none in
    let run = count-run (start - src) n (λ k. has_unit fresh (src + k)) (λ j from lt. all (src + j) (omega arith) (omega arith)) in
    ap (λ (m : ℕ). count_below m (λ k. has_unit fresh (src + k))) is ∙ omega (arith, gap, run)

-- a number of 100 units is at most 100
pub percent_few : (fresh mapped : ℕ) → fresh ≤ mapped → 0 < mapped → 100 * fresh / mapped ≤ 100
percent_few fresh mapped le some = div-le_of_le-mul mapped (omega arith)

-- one count more is folded
pub fold_step : (entries : List Entry) (counts : List ℕ) (fresh : List Extent) (i : ℕ) (d : ℕ) → i < length entries → length counts ≡ length entries
    → take (suc i) (set counts i (get_or counts i d + fresh_units fresh (entry_at entries i))) ++ folded (drop (suc i) entries) (drop (suc i) (set counts i (get_or counts i d + fresh_units fresh (entry_at entries i)))) fresh
    ≡ take i counts ++ folded (drop i entries) (drop i counts) fresh
fold_step [] counts fresh i d i_in len = absurd (omega arith)
fold_step (e ∷ entries) [] fresh i d i_in len = absurd (omega arith)
fold_step (e ∷ entries) (c ∷ counts) fresh zero d i_in len = refl
fold_step (e ∷ entries) (c ∷ counts) fresh (suc i) d i_in len = ap (λ (cs : List ℕ). c ∷ cs) (fold_step entries counts fresh i d (omega arith) (omega arith))
