-- The words of a set to which the units of an extent come, or from which they go.
use Rattle.std.proofs.Common.{◌≡◌, ℕ, zero, suc, ◌+◌, ◌-◌, ◌*◌, ◌<◌, ◌≤◌, ◌^◌, false, not, ◌&&◌, ◌||◌, ◌==◌, nat_le, List, [], ◌∷◌, length, max, min, refl, ◌∙◌, sym, arith, ⊎_elim, if◌then◌else◌}
use Rattle.std.proofs.lemmas.Bool.{cases_lt, cases_eq}
use Rattle.std.specs.Int.{div_ceil}
use Rattle.std.proofs.lemmas.Grind.{div_ceil_times}
use Rattle.std.proofs.lemmas.Bool.Decides.{nat_tests}
use Rattle.std.proofs.lemmas.List.Sums.{sum_by-cons}
use Rattle.zr_base.specs.declared.space.Extent.{Extent}
use Rattle.zr_base.specs.Extents.{extent_at, in_extent, has_unit, unit_count, IsMaximalFrom}
use Rattle.zr_base.proofs.ExtentSets.{has_unit-below, same_extents}
use Rattle.zr_rules.specs.Owed.{set_words, extent_words}
use Rattle.zr_reckon.specs.Sets.{IsWith, IsWithout}

-- ---- words by length

unfoldable pub run_words : ℕ → ℕ → ℕ
run_words version len = if version == 1 then div_ceil len 32768 else (if nat_le len 32768 then 1 else 2)

-- how many words a cut in the middle adds
unfoldable pub cut_words : ℕ → ℕ
cut_words version = if version == 1 then 1 else 2

parts : (a : ℕ) → (a ≤ div_ceil a 32768 * 32768) × (div_ceil a 32768 * 32768 < a + 32768)
parts a = div_ceil_times a 32768 (omega arith)

-- the words of no more units than two runs have together
run_words-joined : (version a b n : ℕ) → n ≤ a + b → run_words version n ≤ run_words version a + run_words version b
unfolding run_words
run_words-joined version a b n le = ⊎_elim
    (λ one. let x = parts a in let y = parts b in let z = parts n in grind (arith, nat_tests, one, x, y, z, le))
    (λ two. grind (arith, nat_tests, two, le))
    (cases_eq version 1)

-- the words of no more units
pub run_words-mono : (version a n : ℕ) → n ≤ a → run_words version n ≤ run_words version a
unfolding run_words
run_words-mono version a n le = ⊎_elim
    (λ one. let x = parts a in let z = parts n in grind (arith, nat_tests, one, x, z, le))
    (λ two. grind (arith, nat_tests, two, le))
    (cases_eq version 1)

-- the words of two runs that are left of one
run_words-cut : (version a b n : ℕ) → a + b ≤ n → run_words version a + run_words version b ≤ run_words version n + cut_words version
unfolding run_words cut_words
run_words-cut version a b n le = ⊎_elim
    (λ one. let x = parts a in let y = parts b in let z = parts n in grind (arith, nat_tests, one, x, y, z, le))
    (λ two. grind (arith, nat_tests, two, le))
    (cases_eq version 1)

-- a short run has one word, and a run that is not empty has no more words than units
pub run_words-short : (version n : ℕ) → n ≤ 32768 → run_words version n ≤ 1
unfolding run_words
run_words-short version n le = ⊎_elim
    (λ one. let z = parts n in grind (arith, nat_tests, one, z, le))
    (λ two. grind (arith, nat_tests, two, le))
    (cases_eq version 1)

run_words-units : (version n : ℕ) → 0 < n → run_words version n ≤ n
unfolding run_words
run_words-units version n some = ⊎_elim
    (λ one. let z = parts n in grind (arith, nat_tests, one, z, some))
    (λ two. grind (arith, nat_tests, two, some))
    (cases_eq version 1)

run_words-some : (version n : ℕ) → 0 < n → 1 ≤ run_words version n
unfolding run_words
run_words-some version n some = ⊎_elim
    (λ one. let z = parts n in grind (arith, nat_tests, one, z, some))
    (λ two. grind (arith, nat_tests, two, some))
    (cases_eq version 1)

pub cut_words-two : (version : ℕ) → cut_words version ≤ 2
unfolding cut_words
cut_words-two version = ⊎_elim (λ one. grind (arith, nat_tests, one)) (λ two. grind (arith, nat_tests, two)) (cases_eq version 1)

cut_words-one : cut_words 1 ≡ 1
unfolding cut_words
cut_words-one = refl

pub extent_words-is : (version : ℕ) (e : Extent) → extent_words version e ≡ run_words version e.len
unfolding run_words
extent_words-is version e = refl

pub words-cons : (version : ℕ) (e : Extent) (es : List Extent) → set_words version (e ∷ es) ≡ run_words version e.len + set_words version es
unfolding run_words
words-cons version e es = sum_by-cons (extent_words version) e es

pub short_words : (version : ℕ) (e : Extent) → e.len ≤ 32768 → extent_words version e ≤ 1
short_words version e le = rw (extent_words-is version e) (run_words-short version e.len le)

pub some_words : (version : ℕ) (e : Extent) → 0 < e.len → 1 ≤ extent_words version e
some_words version e some = rw (extent_words-is version e) (run_words-some version e.len some)

-- ---- lists of maximal extents

pub lowered : (low high : ℕ) (xs : List Extent) → low ≤ high → IsMaximalFrom high xs → IsMaximalFrom low xs
lowered low high [] le m = tt
lowered low high (x ∷ xs) le m = (omega (arith, m.0), m.1, m.2, m.3)

-- a set ends by 2 ^ 62
pub has_unit-high : (low u : ℕ) (xs : List Extent) → IsMaximalFrom low xs → 2 ^ 62 ≤ u → has_unit xs u ≡ false
has_unit-high low u [] m le = refl
has_unit-high low u (x ∷ xs) m le = let rest = has_unit-high (x.start + x.len + 1) u xs m.3 le in let b = m.2 in grind (arith, nat_tests, rest, b, le)

-- ---- units that come

-- a list of the set with the extent, and of no more words than theirs
pub record Joined (version low : ℕ) (e : Extent) (es : List Extent) : Type 0 where
  pub all : List Extent
  pub maximal : IsMaximalFrom low all
  pub members : (u : ℕ) → has_unit all u ≡ (has_unit es u || in_extent e u)
  pub words : set_words version all ≤ set_words version es + run_words version e.len

pub join : (version low : ℕ) (e : Extent) (es : List Extent) → IsMaximalFrom low es → low ≤ e.start → 0 < e.len → e.start + e.len ≤ 2 ^ 62 → Joined version low e es
join version low e [] m l n fits = record {
  all = e ∷ [];
  maximal = (l, n, fits, tt);
  members = λ u. grind arith;
  words = let a = words-cons version e [] in omega (arith, a);
}
join version low e (x ∷ xs) m l n fits =
    let there = words-cons version x xs in
    ⊎_elim
    (λ before.
    let rest = join version (x.start + x.len + 1) e xs m.3 (omega (arith, before)) n fits in
    let r = rest.words in
    let a = words-cons version x rest.all in
    record {
      all = x ∷ rest.all;
      maximal = (m.0, m.1, m.2, rest.maximal);
      members = λ u. let s = rest.members u in grind (arith, s);
      words = omega (arith, r, a, there);
    })
    (λ not_before. ⊎_elim
    (λ after.
    let a = words-cons version e (x ∷ xs) in
    record {
      all = e ∷ (x ∷ xs);
      maximal = (l, n, fits, (omega (arith, after), m.1, m.2, m.3));
      members = λ u. grind arith;
      words = omega (arith, a);
    })
    (λ not_after.
    let from : ℕ = min x.start e.start in
    let to : ℕ = max (x.start + x.len) (e.start + e.len) in
    let h : Extent = record { start = from; len = to - from } in
    let x0 = m.0 in let x1 = m.1 in let x2 = m.2 in
    let rest = join version low h xs (lowered low (x.start + x.len + 1) xs (omega (arith, x0)) m.3) (omega (arith, x0, l)) (omega (arith, x1)) (omega (arith, x2, fits)) in
    let r = rest.words in
    let both = run_words-joined version x.len e.len h.len (omega (arith, not_before, not_after)) in
    record {
      all = rest.all;
      maximal = rest.maximal;
      members = λ u. let s = rest.members u in grind (arith, nat_tests, s, not_before, not_after);
      words = omega (arith, r, both, there);
    })
    (cases_lt (e.start + e.len) x.start))
    (cases_lt (x.start + x.len) e.start)

-- an extent without units changes nothing, and one with units ends by 2 ^ 62
with_none : (es fs : List Extent) (e : Extent) → IsWith es fs e → e.len ≡ 0 → fs ≡ es
with_none es fs e w none = same_extents 0 0 fs es w.new_maximal w.old_maximal (λ u. let s = w.members u in grind (arith, nat_tests, s, none))

with_fits : (es fs : List Extent) (e : Extent) → IsWith es fs e → 0 < e.len → e.start + e.len ≤ 2 ^ 62
with_fits es fs e w some = ⊎_elim
    (λ high.
    let out = has_unit-high 0 (e.start + e.len - 1) fs w.new_maximal (omega (arith, high)) in
    let s = w.members (e.start + e.len - 1) in
    absurd (grind (arith, nat_tests, out, s, some)))
    (λ fits. fits)
    (cases_lt (2 ^ 62) (e.start + e.len))

pub more_words : (version : ℕ) (es fs : List Extent) (e : Extent) → IsWith es fs e → set_words version fs ≤ set_words version es + extent_words version e
more_words version es fs e w = ⊎_elim
    (λ some.
    let j = join version 0 e es w.old_maximal (omega arith) some (with_fits es fs e w some) in
    let same = same_extents 0 0 fs j.all w.new_maximal j.maximal (λ u. w.members u ∙ sym (j.members u)) in
    let r = j.words in
    rw same (rw (extent_words-is version e) r))
    (λ none. rw (with_none es fs e w (omega (arith, none))) (omega arith))
    (cases_lt 0 e.len)

-- ---- units that go

pub record Parted (version more low : ℕ) (e : Extent) (es : List Extent) : Type 0 where
  pub all : List Extent
  pub maximal : IsMaximalFrom low all
  pub members : (u : ℕ) → has_unit all u ≡ (has_unit es u && not (in_extent e u))
  pub words : set_words version all ≤ set_words version es + more

-- where the extent starts below the set, at most the front of one of the set's goes
pub cut_front : (version low : ℕ) (e : Extent) (es : List Extent) → IsMaximalFrom low es → e.start ≤ low → Parted version 0 low e es
cut_front version low e [] m from = record { all = []; maximal = tt; members = λ u. refl; words = omega arith }
cut_front version low e (x ∷ xs) m from =
    let x0 = m.0 in let x1 = m.1 in let x2 = m.2 in
    let there = words-cons version x xs in
    ⊎_elim
    (λ inside. ⊎_elim
    (λ part.
    let y : Extent = record { start = e.start + e.len; len = x.start + x.len - (e.start + e.len) } in
    let a = words-cons version y xs in
    let less = run_words-mono version x.len y.len (omega (arith, inside)) in
    record {
      all = y ∷ xs;
      maximal = (omega (arith, inside, x0), omega (arith, part), omega (arith, part, x2), lowered _ (x.start + x.len + 1) xs (omega (arith, part)) m.3);
      members = λ u. let below = has_unit-below (x.start + x.len + 1) u xs m.3 in grind (arith, nat_tests, below, part, inside, from, x0);
      words = omega (arith, a, less, there);
    })
    (λ whole.
    let rest = cut_front version (x.start + x.len + 1) e xs m.3 (omega (arith, from, x0)) in
    let r = rest.words in
    record {
      all = rest.all;
      maximal = lowered low (x.start + x.len + 1) rest.all (omega (arith, x0)) rest.maximal;
      members = λ u. let s = rest.members u in grind (arith, nat_tests, s, whole, from, x0);
      words = omega (arith, r, there);
    })
    (cases_lt (e.start + e.len) (x.start + x.len)))
    (λ apart.
    record {
      all = x ∷ xs;
      maximal = m;
      members = λ u. let below = has_unit-below (x.start + x.len + 1) u xs m.3 in grind (arith, nat_tests, below, apart);
      words = omega arith;
    })
    (cases_lt x.start (e.start + e.len))

pub part : (version low : ℕ) (e : Extent) (es : List Extent) → IsMaximalFrom low es → 0 < e.len → Parted version (cut_words version) low e es
part version low e [] m n = record { all = []; maximal = tt; members = λ u. refl; words = omega arith }
part version low e (x ∷ xs) m n =
    let x0 = m.0 in let x1 = m.1 in let x2 = m.2 in
    let there = words-cons version x xs in
    ⊎_elim
    (λ after. ⊎_elim
    (λ meets. ⊎_elim
    (λ inside.
    let y : Extent = record { start = x.start; len = e.start - x.start } in
    let z : Extent = record { start = e.start + e.len; len = x.start + x.len - (e.start + e.len) } in
    let a = words-cons version y (z ∷ xs) in
    let b = words-cons version z xs in
    let c = run_words-cut version y.len z.len x.len (omega (arith, inside, after)) in
    record {
      all = y ∷ (z ∷ xs);
      maximal = (x0, omega (arith, after), omega (arith, meets, x2), (omega (arith, n, after), omega (arith, inside), omega (arith, inside, x2), lowered _ (x.start + x.len + 1) xs (omega (arith, inside)) m.3));
      members = λ u. let below = has_unit-below (x.start + x.len + 1) u xs m.3 in grind (arith, nat_tests, below, inside, after, meets);
      words = omega (arith, a, b, c, there);
    })
    (λ past.
    let y : Extent = record { start = x.start; len = e.start - x.start } in
    let rest = cut_front version (x.start + x.len + 1) e xs m.3 (omega (arith, meets)) in
    let r = rest.words in
    let a = words-cons version y rest.all in
    let less = run_words-mono version x.len y.len (omega (arith, meets)) in
    record {
      all = y ∷ rest.all;
      maximal = (x0, omega (arith, after), omega (arith, meets, x2), lowered _ (x.start + x.len + 1) rest.all (omega (arith, meets, after)) rest.maximal);
      members = λ u. let s = rest.members u in grind (arith, nat_tests, s, after, meets, past);
      words = omega (arith, r, a, less, there);
    })
    (cases_lt (e.start + e.len) (x.start + x.len)))
    (λ before.
    let rest = part version (x.start + x.len + 1) e xs m.3 n in
    let r = rest.words in
    let a = words-cons version x rest.all in
    record {
      all = x ∷ rest.all;
      maximal = (x0, x1, x2, rest.maximal);
      members = λ u. let s = rest.members u in grind (arith, nat_tests, s, before);
      words = omega (arith, r, a, there);
    })
    (cases_lt e.start (x.start + x.len)))
    (λ front.
    let rest = cut_front version x.start e (x ∷ xs) (omega arith, x1, x2, m.3) front in
    let r = rest.words in
    record { all = rest.all; maximal = lowered low x.start rest.all x0 rest.maximal; members = rest.members; words = omega (arith, r) })
    (cases_lt x.start e.start)

without_none : (es fs : List Extent) (e : Extent) → IsWithout es fs e → e.len ≡ 0 → fs ≡ es
without_none es fs e w none = same_extents 0 0 fs es w.new_maximal w.old_maximal (λ u. let s = w.members u in grind (arith, nat_tests, s, none))

less_by : (version : ℕ) (es fs : List Extent) (e : Extent) → IsWithout es fs e → set_words version fs ≤ set_words version es + cut_words version
less_by version es fs e w = ⊎_elim
    (λ some.
    let j = part version 0 e es w.old_maximal some in
    let same = same_extents 0 0 fs j.all w.new_maximal j.maximal (λ u. w.members u ∙ sym (j.members u)) in
    let r = j.words in
    rw same r)
    (λ none. rw (without_none es fs e w (omega (arith, none))) (omega arith))
    (cases_lt 0 e.len)

pub less_words : (version : ℕ) (es fs : List Extent) (e : Extent) → IsWithout es fs e → set_words version fs ≤ set_words version es + 2
less_words version es fs e w = let a = less_by version es fs e w in let b = cut_words-two version in omega (arith, a, b)

pub less_words-one : (es fs : List Extent) (e : Extent) → IsWithout es fs e → set_words 1 fs ≤ set_words 1 es + 1
less_words-one es fs e w = let a = less_by 1 es fs e w in let b = cut_words-one in omega (arith, a, b)

-- ---- a whole extent goes

-- the list without the extent at the index
pub record Taken (version low : ℕ) (e : Extent) (es : List Extent) : Type 0 where
  pub all : List Extent
  pub maximal : IsMaximalFrom low all
  pub members : (u : ℕ) → has_unit all u ≡ (has_unit es u && not (in_extent e u))
  pub words : set_words version all + run_words version e.len ≡ set_words version es

pub take_out : (version low i : ℕ) (es : List Extent) → IsMaximalFrom low es → i < length es → Taken version low (extent_at es i) es
take_out version low i [] m lt = absurd (omega (arith, lt))
take_out version low zero (x ∷ xs) m lt =
    let there = words-cons version x xs in
    let x0 = m.0 in
    record {
      all = xs;
      maximal = lowered low (x.start + x.len + 1) xs (omega (arith, x0)) m.3;
      members = λ u. let below = has_unit-below (x.start + x.len + 1) u xs m.3 in grind (arith, nat_tests, below);
      words = omega (arith, there);
    }
take_out version low (suc i) (x ∷ xs) m lt =
    let rest = take_out version (x.start + x.len + 1) i xs m.3 (omega (arith, lt)) in
    let there = words-cons version x xs in
    let a = words-cons version x rest.all in
    let r = rest.words in
    let above = at_from (x.start + x.len + 1) i xs m.3 (omega (arith, lt)) in
    record {
      all = x ∷ rest.all;
      maximal = (m.0, m.1, m.2, rest.maximal);
      members = λ u. let s = rest.members u in grind (arith, nat_tests, s, above);
      words = omega (arith, there, a, r);
    }
  where
    at_from : (low i : ℕ) (es : List Extent) → IsMaximalFrom low es → i < length es → low ≤ (extent_at es i).start
    at_from low i [] m lt = absurd (omega (arith, lt))
    at_from low zero (x ∷ xs) m lt = m.0
    at_from low (suc i) (x ∷ xs) m lt = let r = at_from (x.start + x.len + 1) i xs m.3 (omega (arith, lt)) in omega (arith, r, m.0)

pub whole_words : (version : ℕ) (es fs : List Extent) (i : ℕ) → i < length es → IsWithout es fs (extent_at es i) → set_words version fs + extent_words version (extent_at es i) ≡ set_words version es
whole_words version es fs i lt w =
    let t = take_out version 0 i es w.old_maximal lt in
    let same = same_extents 0 0 fs t.all w.new_maximal t.maximal (λ u. w.members u ∙ sym (t.members u)) in
    let r = t.words in
    rw same (rw (extent_words-is version (extent_at es i)) r)

-- ---- words and units

pub few_words : (version low : ℕ) (es : List Extent) → IsMaximalFrom low es → set_words version es ≤ unit_count es
few_words version low [] m = omega arith
few_words version low (x ∷ xs) m =
    let rest = few_words version (x.start + x.len + 1) xs m.3 in
    let there = words-cons version x xs in
    let one = run_words-units version x.len m.1 in
    omega (arith, rest, there, one)
