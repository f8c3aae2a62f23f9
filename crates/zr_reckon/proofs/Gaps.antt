-- The units of an entry's copy that are not marked, as runs, and the words of a set from which they go.
use Rattle.std.proofs.Common.{◌≡◌, ℕ, ◌+◌, ◌-◌, ◌<◌, ◌≤◌, Bool, true, false, not, ◌&&◌, ◌||◌, ◌==◌, nat_le, nat_lt, min, List, [], ◌∷◌, length, map, refl, arith, if◌then◌else◌, ⊎_elim}
use Rattle.std.specs.List.{sum_by, list_any}
use Rattle.std.proofs.lemmas.Bool.{cases_lt, cases_eq}
use Rattle.std.proofs.lemmas.Bool.Decides.{nat_tests}
use Rattle.std.proofs.lemmas.List.{length-map}
use Rattle.std.proofs.lemmas.List.Sums.{sum_by-cons}
use Rattle.zr_base.specs.declared.space.Extent.{Extent}
use Rattle.zr_base.specs.declared.space.Entry.{Entry}
use Rattle.zr_base.specs.Extents.{in_extent, has_unit, IsMaximalFrom, IsMaximal}
use Rattle.zr_base.proofs.ExtentSets.{has_unit-below}
use Rattle.zr_rules.specs.Owed.{set_words}
use Rattle.zr_rules.specs.Places.{one_if}
use Rattle.zr_rules.specs.Mappings.{IsRisingFrom}
use Rattle.zr_reckon.proofs.SetWords.{run_words-mono, run_words-short, words-cons, lowered, Parted, cut_front, part, cut_words-two, some_words, extent_words-is}

-- ---- a cut behind a unit that the set has not

-- the left part that is left is short, so a cut adds one word
part_next : (version low z : ℕ) (e : Extent) (es : List Extent) → IsMaximalFrom low es → 0 < e.len → z < e.start → e.start ≤ z + 32768 → has_unit es z ≡ false → Parted version 1 low e es
part_next version low z e [] m n before near hole = record { all = []; maximal = tt; members = λ u. refl; words = omega arith }
part_next version low z e (x ∷ xs) m n before near hole =
    let x0 = m.0 in let x1 = m.1 in let x2 = m.2 in
    let there = words-cons version x xs in
    ⊎_elim
    (λ after. ⊎_elim
    (λ meets.
    let from : z < x.start = ⊎_elim (λ lt. lt) (λ ge. absurd (grind (arith, nat_tests, hole, ge, before, meets))) (cases_lt z x.start) in
    ⊎_elim
    (λ inside.
    let y : Extent = record { start = x.start; len = e.start - x.start } in
    let q : Extent = record { start = e.start + e.len; len = x.start + x.len - (e.start + e.len) } in
    let a = words-cons version y (q ∷ xs) in
    let b = words-cons version q xs in
    let c = run_words-short version y.len (omega (arith, near, from)) in
    let d = run_words-mono version x.len q.len (omega (arith, inside)) in
    record {
      all = y ∷ (q ∷ xs);
      maximal = (x0, omega (arith, after), omega (arith, meets, x2), (omega (arith, n, after), omega (arith, inside), omega (arith, inside, x2), lowered _ (x.start + x.len + 1) xs (omega (arith, inside)) m.3));
      members = λ u. let below = has_unit-below (x.start + x.len + 1) u xs m.3 in grind (arith, nat_tests, below, inside, after, meets);
      words = omega (arith, a, b, c, d, there);
    })
    (λ past.
    let y : Extent = record { start = x.start; len = e.start - x.start } in
    let rest = cut_front version (x.start + x.len + 1) e xs m.3 (omega (arith, meets)) in
    let r = rest.words in
    let a = words-cons version y rest.all in
    let less = run_words-mono version x.len y.len (omega (arith, meets)) in
    record {
      all = y ∷ rest.all;
      maximal = (x0, omega (arith, after), omega (arith, meets, x2), lowered _ (x.start + x.len + 1) rest.all (omega (arith, meets, after)) rest.maximal);
      members = λ u. let s = rest.members u in grind (arith, nat_tests, s, after, meets, past);
      words = omega (arith, r, a, less, there);
    })
    (cases_lt (e.start + e.len) (x.start + x.len)))
    (λ ends.
    let rest = part_next version (x.start + x.len + 1) z e xs m.3 n before near (grind (arith, hole)) in
    let r = rest.words in
    let a = words-cons version x rest.all in
    record {
      all = x ∷ rest.all;
      maximal = (x0, x1, x2, rest.maximal);
      members = λ u. let s = rest.members u in grind (arith, nat_tests, s, ends);
      words = omega (arith, r, a, there);
    })
    (cases_lt e.start (x.start + x.len)))
    (λ front.
    let rest = cut_front version x.start e (x ∷ xs) (omega arith, x1, x2, m.3) front in
    let r = rest.words in
    record { all = rest.all; maximal = lowered low x.start rest.all x0 rest.maximal; members = rest.members; words = omega (arith, r) })
    (cases_lt x.start e.start)

-- ---- runs in order go

-- the runs rise, from `low` on, and end by `high`
abbrev pub Rises : ℕ → ℕ → List Extent → Type 0
Rises low high [] = Unit {0}
Rises low high (g ∷ gs) = (low ≤ g.start) × (g.start + g.len ≤ high) × Rises (g.start + g.len) high gs

rises_lower : (low from high : ℕ) (gs : List Extent) → low ≤ from → Rises from high gs → Rises low high gs
rises_lower low from high [] le r = tt
rises_lower low from high (g ∷ gs) le r = (omega (arith, r.0), r.1, r.2)

pub record Stripped (version more : ℕ) (es gs : List Extent) : Type 0 where
  pub all : List Extent
  pub maximal : IsMaximal all
  pub members : (u : ℕ) → has_unit all u ≡ (has_unit es u && not (has_unit gs u))
  pub words : set_words version all ≤ set_words version es + more

and_true : (b : Bool) → b ≡ (b && true)
and_true true = refl
and_true false = refl

three : (a r e x y : Bool) → a ≡ (r && not y) → r ≡ (e && not x) → a ≡ (e && not (x || y))
three a r e x y p q = grind (arith, p, q)

strip_next : (version z high : ℕ) (es gs : List Extent) → IsMaximal es → has_unit es z ≡ false → Rises (z + 1) high gs → high ≤ z + 32768 → Stripped version (length gs) es gs
strip_next version z high es [] m hole r near = record { all = es; maximal = m; members = λ u. and_true (has_unit es u); words = omega arith }
strip_next version z high es (g ∷ gs) m hole r near =
    let g0 = r.0 in let g1 = r.1 in
    ⊎_elim
    (λ some.
    let p = part_next version 0 z g es m some (omega (arith, g0)) (omega (arith, g1, near)) hole in
    let w = p.words in
    let last = g.start + g.len - 1 in
    let out = p.members last in
    let rest = strip_next version last high p.all gs p.maximal (grind (arith, nat_tests, out, some)) (rises_lower (last + 1) (g.start + g.len) high gs (omega (arith, some)) r.2) (omega (arith, g0, near, some)) in
    let v = rest.words in
    record {
      all = rest.all;
      maximal = rest.maximal;
      members = λ u. three (has_unit rest.all u) (has_unit p.all u) (has_unit es u) (in_extent g u) (has_unit gs u) (rest.members u) (p.members u);
      words = omega (arith, v, w);
    })
    (λ none.
    let rest = strip_next version z high es gs m hole (rises_lower (z + 1) (g.start + g.len) high gs (omega (arith, g0)) r.2) near in
    let v = rest.words in
    record {
      all = rest.all;
      maximal = rest.maximal;
      members = λ u. let s = rest.members u in grind (arith, nat_tests, s, none);
      words = omega (arith, v);
    })
    (cases_lt 0 g.len)

-- the first cut may add two words, and each other one
strip : (version low high : ℕ) (es gs : List Extent) → IsMaximal es → Rises low high gs → high ≤ low + 32768 → Stripped version (1 + length gs) es gs
strip version low high es [] m r near = record { all = es; maximal = m; members = λ u. and_true (has_unit es u); words = omega arith }
strip version low high es (g ∷ gs) m r near =
    let g0 = r.0 in
    ⊎_elim
    (λ some.
    let p = part version 0 g es m some in
    let w = p.words in
    let two = cut_words-two version in
    let last = g.start + g.len - 1 in
    let out = p.members last in
    let rest = strip_next version last high p.all gs p.maximal (grind (arith, nat_tests, out, some)) (rises_lower (last + 1) (g.start + g.len) high gs (omega (arith, some)) r.2) (omega (arith, g0, near, some)) in
    let v = rest.words in
    record {
      all = rest.all;
      maximal = rest.maximal;
      members = λ u. three (has_unit rest.all u) (has_unit p.all u) (has_unit es u) (in_extent g u) (has_unit gs u) (rest.members u) (p.members u);
      words = omega (arith, v, w, two);
    })
    (λ none.
    let rest = strip version low high es gs m (rises_lower low (g.start + g.len) high gs (omega (arith, g0)) r.2) near in
    let v = rest.words in
    record {
      all = rest.all;
      maximal = rest.maximal;
      members = λ u. let s = rest.members u in grind (arith, nat_tests, s, none);
      words = omega (arith, v);
    })
    (cases_lt 0 g.len)

-- ---- the runs of an entry outside of a set

abbrev gap : ℕ → ℕ → Extent
gap from to = record { start = from; len = to - from }

-- how many extents start within
abbrev pub starts_in : ℕ → ℕ → List Extent → ℕ
starts_in from to fs = sum_by (λ (f : Extent). one_if (nat_lt from f.start && nat_lt f.start to)) fs

starts_cons : (from to : ℕ) (f : Extent) (fs : List Extent) → starts_in from to (f ∷ fs) ≡ one_if (nat_lt from f.start && nat_lt f.start to) + starts_in from to fs
starts_cons from to f fs = sum_by-cons (λ (x : Extent). one_if (nat_lt from x.start && nat_lt x.start to)) f fs

starts_later : (from later to : ℕ) (fs : List Extent) → from ≤ later → starts_in later to fs ≤ starts_in from to fs
starts_later from later to [] le = omega arith
starts_later from later to (f ∷ fs) le =
    let r = starts_later from later to fs le in
    let a = starts_cons from to f fs in
    let b = starts_cons later to f fs in
    let one : one_if (nat_lt later f.start && nat_lt f.start to) ≤ one_if (nat_lt from f.start && nat_lt f.start to) = grind (arith, nat_tests, le) in
    omega (arith, r, a, b, one)

-- the runs from one unit to another that the set has not: a run more than extents start within
pub record Gaps (from to : ℕ) (fs : List Extent) : Type 0 where
  pub all : List Extent
  pub rises : Rises from to all
  pub members : (v : ℕ) → has_unit all v ≡ ((nat_le from v && nat_lt v to) && not (has_unit fs v))
  pub few : length all ≤ 1 + starts_in from to fs

pub gaps_of : (low from to : ℕ) (fs : List Extent) → IsMaximalFrom low fs → from ≤ to → Gaps from to fs
gaps_of low from to [] m le = record { all = gap from to ∷ []; rises = (omega arith, omega (arith, le), tt); members = λ v. grind (arith, nat_tests, le); few = omega arith }
gaps_of low from to (f ∷ fs) m le =
    let a = starts_cons from to f fs in
    ⊎_elim
    (λ beyond. ⊎_elim
    (λ starts. ⊎_elim
    (λ inside.
    let next : ℕ = min (f.start + f.len) to in
    let rest = gaps_of (f.start + f.len + 1) next to fs m.3 (omega arith) in
    let r = rest.few in
    let later = starts_later from next to fs (omega (arith, beyond, le)) in
    let one : one_if (nat_lt from f.start && nat_lt f.start to) ≡ 1 = grind (arith, nat_tests, inside, starts) in
    record {
      all = gap from f.start ∷ rest.all;
      rises = (omega arith, omega (arith, starts, inside), rises_lower (from + (f.start - from)) next to rest.all (omega (arith, inside, starts)) rest.rises);
      members = λ v. let s = rest.members v in let below = has_unit-below (f.start + f.len + 1) v fs m.3 in grind (arith, nat_tests, s, below, inside, starts, beyond);
      few = omega (arith, a, r, later, one);
    })
    (λ before.
    let next : ℕ = min (f.start + f.len) to in
    let rest = gaps_of (f.start + f.len + 1) next to fs m.3 (omega arith) in
    let r = rest.few in
    let later = starts_later from next to fs (omega (arith, beyond, le)) in
    record {
      all = rest.all;
      rises = rises_lower from next to rest.all (omega (arith, beyond, le)) rest.rises;
      members = λ v. let s = rest.members v in grind (arith, nat_tests, s, before, starts, beyond);
      few = omega (arith, a, r, later);
    })
    (cases_lt from f.start))
    (λ past.
    record {
      all = gap from to ∷ [];
      rises = (omega arith, omega (arith, le), tt);
      members = λ v. let below = has_unit-below (f.start + f.len + 1) v fs m.3 in grind (arith, nat_tests, below, past, le);
      few = omega arith;
    })
    (cases_lt f.start to))
    (λ ended.
    let rest = gaps_of (f.start + f.len + 1) from to fs m.3 le in
    let r = rest.few in
    record {
      all = rest.all;
      rises = rest.rises;
      members = λ v. let s = rest.members v in grind (arith, nat_tests, s, ended);
      few = omega (arith, a, r);
    })
    (cases_lt from (f.start + f.len))

-- ---- the unmarked part of an entry's copy

-- the entry has put an unmarked unit there
abbrev pub is_put_by : ℕ → List Extent → ℕ → Entry → Bool
is_put_by e fresh u x = x.dev == e && (nat_le x.dst u && (nat_lt u (x.dst + x.len) && not (has_unit fresh (x.src + (u - x.dst)))))

abbrev moved : Entry → List Extent → List Extent
moved x gs = map (λ (g : Extent). record { start = x.dst + (g.start - x.src); len = g.len }) gs

moved_unit : (x : Entry) (u high : ℕ) (gs : List Extent) (low : ℕ) → x.src ≤ low → Rises low high gs → has_unit (moved x gs) u ≡ (nat_le x.dst u && has_unit gs (x.src + (u - x.dst)))
moved_unit x u high [] low le r = grind (arith, nat_tests)
moved_unit x u high (g ∷ gs) low le r =
    let rest = moved_unit x u high gs (g.start + g.len) (omega (arith, le, r.0)) r.2 in
    let a = r.0 in
    grind (arith, nat_tests, rest, a, le)

moved_rise : (x : Entry) (low high : ℕ) (gs : List Extent) → x.src ≤ low → low ≤ high → Rises low high gs → Rises (x.dst + (low - x.src)) (x.dst + (high - x.src)) (moved x gs)
moved_rise x low high [] le up r = tt
moved_rise x low high (g ∷ gs) le up r =
    let a = r.0 in
    let b = r.1 in
    let rest = moved_rise x (g.start + g.len) high gs (omega (arith, le, a)) b r.2 in
    (omega (arith, a, le), omega (arith, a, b, le), rises_lower (x.dst + (g.start - x.src) + g.len) (x.dst + (g.start + g.len - x.src)) (x.dst + (high - x.src)) (moved x gs) (omega (arith, a, le)) rest)

-- the set without the unmarked units that the entry has put on the device
pub record Given (version more e : ℕ) (fresh : List Extent) (es : List Extent) (put : ℕ → Bool) : Type 0 where
  pub all : List Extent
  pub maximal : IsMaximal all
  pub members : (u : ℕ) → has_unit all u ≡ (has_unit es u && not (put u))
  pub words : set_words version all ≤ set_words version es + more

abbrev pub entry_words_on : ℕ → List Extent → Entry → ℕ
entry_words_on e fresh x = if x.dev == e then 2 + starts_in x.src (x.src + x.len) fresh else 0

give_one : (version e : ℕ) (fresh es : List Extent) (x : Entry) → IsMaximal fresh → IsMaximal es → x.len ≤ 256 → Given version (entry_words_on e fresh x) e fresh es (λ u. is_put_by e fresh u x)
give_one version e fresh es x f m short = ⊎_elim
    (λ here.
    let g = gaps_of 0 x.src (x.src + x.len) fresh f (omega arith) in
    let rise = moved_rise x x.src (x.src + x.len) g.all (omega arith) (omega arith) g.rises in
    let s = strip version (x.dst + (x.src - x.src)) (x.dst + (x.src + x.len - x.src)) es (moved x g.all) m rise (omega (arith, short)) in
    let w = s.words in
    let few = g.few in
    let k = length-map g.all (λ (y : Extent). let q : Extent = record { start = x.dst + (y.start - x.src); len = y.len } in q) in
    record {
      all = s.all;
      maximal = s.maximal;
      members = λ u.
          let a = s.members u in
          let b = moved_unit x u (x.src + x.len) g.all x.src (omega arith) g.rises in
          let c = g.members (x.src + (u - x.dst)) in
          given_bits u (has_unit s.all u) (has_unit es u) (has_unit (moved x g.all) u) (has_unit g.all (x.src + (u - x.dst))) (has_unit fresh (x.src + (u - x.dst))) here a b c;
      words = let one : entry_words_on e fresh x ≡ 2 + starts_in x.src (x.src + x.len) fresh = grind (arith, nat_tests, here) in omega (arith, w, few, k, one);
    })
    (λ away. record { all = es; maximal = m; members = λ u. grind (arith, nat_tests, away); words = omega arith })
    (cases_eq x.dev e)
  where
    given_bits : (u : ℕ) (a o mv g f : Bool) → x.dev ≡ e → a ≡ (o && not mv) → mv ≡ (nat_le x.dst u && g) → g ≡ ((nat_le x.src (x.src + (u - x.dst)) && nat_lt (x.src + (u - x.dst)) (x.src + x.len)) && not f)
        → a ≡ (o && not (x.dev == e && (nat_le x.dst u && (nat_lt u (x.dst + x.len) && not f))))
    given_bits u a o mv g f here p q r = grind (arith, nat_tests, here, p, q, r)

-- .. and without those of all entries
pub give_all : (version e low : ℕ) (fresh es : List Extent) (xs : List Entry) → IsMaximal fresh → IsMaximal es → IsRisingFrom low xs → Given version (sum_by (entry_words_on e fresh) xs) e fresh es (λ u. list_any (is_put_by e fresh u) xs)
give_all version e low fresh es [] f m r = record { all = es; maximal = m; members = λ u. and_true (has_unit es u); words = omega arith }
give_all version e low fresh es (x ∷ xs) f m r =
    let first = give_one version e fresh es x f m r.1.short in
    let a = first.words in
    let rest = give_all version e (x.src + x.len) fresh first.all xs f first.maximal r.2 in
    let b = rest.words in
    let s = sum_by-cons (entry_words_on e fresh) x xs in
    record {
      all = rest.all;
      maximal = rest.maximal;
      members = λ u. three (has_unit rest.all u) (has_unit first.all u) (has_unit es u) (is_put_by e fresh u x) (list_any (is_put_by e fresh u) xs) (rest.members u) (first.members u);
      words = omega (arith, a, b, s);
    }

-- ---- how many words that adds at most

starts_below : (at low : ℕ) (xs : List Entry) → IsRisingFrom low xs → at < low → sum_by (λ (x : Entry). one_if (nat_lt x.src at && nat_lt at (x.src + x.len))) xs ≡ 0
starts_below at low [] r lt = refl
starts_below at low (x ∷ xs) r lt =
    let a = r.0 in
    let rest = starts_below at (x.src + x.len) xs r.2 (omega (arith, a, lt)) in
    let s = sum_by-cons (λ (y : Entry). one_if (nat_lt y.src at && nat_lt at (y.src + y.len))) x xs in
    grind (arith, nat_tests, rest, s, a, lt)

-- a unit is within one entry at most
starts_once : (at low : ℕ) (xs : List Entry) → IsRisingFrom low xs → sum_by (λ (x : Entry). one_if (nat_lt x.src at && nat_lt at (x.src + x.len))) xs ≤ 1
starts_once at low [] r = omega arith
starts_once at low (x ∷ xs) r =
    let s = sum_by-cons (λ (y : Entry). one_if (nat_lt y.src at && nat_lt at (y.src + y.len))) x xs in
    ⊎_elim
    (λ within.
    let none = starts_below at (x.src + x.len) xs r.2 within in
    let one : one_if (nat_lt x.src at && nat_lt at (x.src + x.len)) ≤ 1 = grind (arith, nat_tests) in
    omega (arith, s, none, one))
    (λ past.
    let rest = starts_once at (x.src + x.len) xs r.2 in
    let none : one_if (nat_lt x.src at && nat_lt at (x.src + x.len)) ≡ 0 = grind (arith, nat_tests, past) in
    omega (arith, s, rest, none))
    (cases_lt at (x.src + x.len))

starts_split : (f : Extent) (fs : List Extent) (xs : List Entry) → sum_by (λ (x : Entry). starts_in x.src (x.src + x.len) (f ∷ fs)) xs ≡ sum_by (λ (x : Entry). one_if (nat_lt x.src f.start && nat_lt f.start (x.src + x.len))) xs + sum_by (λ (x : Entry). starts_in x.src (x.src + x.len) fs) xs
starts_split f fs [] = refl
starts_split f fs (x ∷ xs) =
    let r = starts_split f fs xs in
    let a = sum_by-cons (λ (y : Entry). starts_in y.src (y.src + y.len) (f ∷ fs)) x xs in
    let b = sum_by-cons (λ (y : Entry). one_if (nat_lt y.src f.start && nat_lt f.start (y.src + y.len))) x xs in
    let c = sum_by-cons (λ (y : Entry). starts_in y.src (y.src + y.len) fs) x xs in
    let d = starts_cons x.src (x.src + x.len) f fs in
    omega (arith, r, a, b, c, d)

pub starts_few : (low : ℕ) (fs : List Extent) (xs : List Entry) → IsRisingFrom low xs → sum_by (λ (x : Entry). starts_in x.src (x.src + x.len) fs) xs ≤ length fs
starts_few low [] xs r = none xs
  where
    none : (ys : List Entry) → sum_by (λ (x : Entry). starts_in x.src (x.src + x.len) []) ys ≤ 0
    none [] = omega arith
    none (y ∷ ys) = let r = none ys in let a = sum_by-cons (λ (x : Entry). starts_in x.src (x.src + x.len) []) y ys in omega (arith, r, a)
starts_few low (f ∷ fs) xs r =
    let a = starts_split f fs xs in
    let one = starts_once f.start low xs r in
    let rest = starts_few low fs xs r in
    omega (arith, a, one, rest)

pub full_words : (version low : ℕ) (fs : List Extent) → IsMaximalFrom low fs → length fs ≤ set_words version fs
full_words version low [] m = omega arith
full_words version low (f ∷ fs) m =
    let r = full_words version (f.start + f.len + 1) fs m.3 in
    let a = words-cons version f fs in
    let s = some_words version f m.1 in
    let e = extent_words-is version f in
    omega (arith, r, a, s, e)
