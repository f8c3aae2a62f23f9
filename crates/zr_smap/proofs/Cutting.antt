-- What a cut is, piece by piece.
use Rattle.std.proofs.Common.{◌≡◌, ◌⊎◌, ℕ, ◌+◌, ◌-◌, ◌*◌, ◌^◌, ◌<◌, ◌≤◌, true, inl, inr, List, [], ◌∷◌, ◌++◌, map, length, min, arith, ⊎_elim, sym, refl, subst, append_assoc, append-nil, if◌then◌else◌}
use Rattle.std.specs.Prelude.{nat_le}
use Rattle.std.specs.List.{AllByRecursion}
use Rattle.std.specs.Int.{div_ceil}
use Rattle.std.proofs.lemmas.Bool.{cases_lt}
use Rattle.std.proofs.lemmas.Bool.Decides.{nat_tests}
use Rattle.std.proofs.lemmas.Grind.{common_steps}
use Rattle.zr_base.specs.declared.space.Extent.{Extent}
use Rattle.zr_base.specs.Extents.{has_unit, unit_count, IsMaximal, IsMaximalFrom}
use Rattle.zr_rules.specs.Logs.{change_words, IsChange, IsCutFrom, AreCut, IsAnew, longest_run}
use Rattle.zr_rules.specs.Owed.{set_words}
use Rattle.zr_smap.proofs.Spelling.{short_words, long_words}
use Rattle.zr_smap.specs.Cuts.{taken, taken_words, reach, IsInReach, PutsRun, AreCutWords}

-- the words of a run before others
pub words_before : (dev : ℕ) (e : Extent) (runs : List Extent) → taken_words dev (e ∷ runs) ≡ change_words dev (taken e) ++ taken_words dev runs
words_before dev e runs = refl

pub words_joined : (dev : ℕ) (front rest : List Extent) → taken_words dev (front ++ rest) ≡ taken_words dev front ++ taken_words dev rest
words_joined dev [] rest = refl
words_joined dev (e ∷ front) rest = rw (words_joined dev front rest) (sym (append_assoc (change_words dev (taken e)) (taken_words dev front) (taken_words dev rest)))

-- a cut that begins with the longest piece that fits
pub cut_before : (most from : ℕ) (e : Extent) (runs : List Extent) → 0 < most → e.start ≡ from → 0 < e.len → e.len ≤ most → (unit_count runs ≡ 0) ⊎ (e.len ≡ most) → IsCutFrom most (from + e.len) runs → IsCutFrom most from (e ∷ runs)
cut_before most from e [] some start positive le last cut = (start, positive, le)
cut_before most from e (r ∷ []) some start positive le last cut =
    let len : e.len ≡ most = ⊎_elim (λ none. absurd (omega (arith, none, cut.1))) (λ full. full) last in
    (start, len, subst (λ (n : ℕ). IsCutFrom most (from + n) (r ∷ [])) len cut)
cut_before most from e (r ∷ s ∷ runs) some start positive le last cut =
    let len : e.len ≡ most = ⊎_elim (λ none. absurd (omega (arith, none, cut.1, some))) (λ full. full) last in
    (start, len, subst (λ (n : ℕ). IsCutFrom most (from + n) (r ∷ s ∷ runs)) len cut)

-- the rest of a run is still to be cut
abbrev pub RestCuts : List ℕ → List ℕ → ℕ → ℕ → Extent → ℕ → Type 0
RestCuts old now most dev e at = (runs : List Extent) → IsCutFrom most at runs → unit_count runs + at ≡ e.start + e.len → PutsRun old (now ++ taken_words dev runs) most dev e

pub nothing_cut : (old : List ℕ) (most dev : ℕ) (e : Extent) → RestCuts old old most dev e e.start
nothing_cut old most dev e runs cut count = record { runs = runs; cut = record { cut = cut; count = omega (arith, count) }; words = refl }

pub piece_cut : (old now next : List ℕ) (most dev at len : ℕ) (e : Extent) → 0 < most → at < e.start + e.len → len ≡ min most (e.start + e.len - at) → next ≡ now ++ change_words dev (taken (record { start = at; len = len })) → RestCuts old now most dev e at → RestCuts old next most dev e (at + len)
piece_cut old now next most dev at len e some inside len_is is rest runs cut count =
    let piece : Extent = record { start = at; len = len } in
    let whole : PutsRun old (now ++ taken_words dev (piece ∷ runs)) most dev e =
    rest (piece ∷ runs)
    (cut_before most at piece runs some refl (omega (arith, len_is)) (omega (arith, len_is))
    (⊎_elim (λ lt. inr (omega (arith, lt, len_is))) (λ ge. inl (omega (arith, ge, count, len_is))) (cases_lt most (e.start + e.len - at))) cut)
    (omega (arith, count)) in
    subst (λ (w : List ℕ). PutsRun old w most dev e)
    (rw is (sym (append_assoc now (change_words dev (taken piece)) (taken_words dev runs)))) whole

pub all_cut : (old now : List ℕ) (most dev at : ℕ) (e : Extent) → at ≡ e.start + e.len → RestCuts old now most dev e at → PutsRun old now most dev e
all_cut old now most dev at e end rest = subst (λ (w : List ℕ). PutsRun old w most dev e) (append-nil now) (rest [] tt (omega (arith, end)))

-- the extent is not empty and within reach
pub record IsPlaced (e : Extent) : Type 0 where
  pub some : 0 < e.len
  pub place : e.start + e.len ≤ 2 ^ 47

pub all_placed : (low : ℕ) (es : List Extent) → IsMaximalFrom low es → ((u : ℕ) → has_unit es u ≡ true → u < 2 ^ 47) → AllByRecursion IsPlaced es
all_placed low [] m within = tt
all_placed low (e ∷ es) m within =
    let last : e.start + e.len - 1 < 2 ^ 47 = within (e.start + e.len - 1) (grind (arith, nat_tests, m.1)) in
    (record { some = m.1; place = omega (arith, last, m.1) }, all_placed (e.start + e.len + 1) es m.3 (λ u h. within u (grind (arith, nat_tests, h))))

-- the extents that are left are still to be cut
abbrev pub AllCuts : List ℕ → ℕ → ℕ → List Extent → List Extent → Type 0
AllCuts now most dev es rest = (runs : List Extent) → AreCut most rest runs → AreCutWords most dev es (now ++ taken_words dev runs)

pub none_cut : (most dev : ℕ) (es : List Extent) → AllCuts [] most dev es es
none_cut most dev es runs cut = record { runs = runs; cut = cut; words_are = refl }

pub one_cut : (now next : List ℕ) (most dev : ℕ) (es rest : List Extent) (e : Extent) → PutsRun now next most dev e → AllCuts now most dev es (e ∷ rest) → AllCuts next most dev es rest
one_cut now next most dev es rest e p all runs cut =
    subst (λ (w : List ℕ). AreCutWords most dev es w)
    (rw (words_joined dev p.runs runs, p.words) (sym (append_assoc now (taken_words dev p.runs) (taken_words dev runs))))
    (all (p.runs ++ runs) (p.runs, runs, refl, p.cut, cut))

pub each_cut : (now : List ℕ) (most dev : ℕ) (es : List Extent) → AllCuts now most dev es [] → AreCutWords most dev es now
each_cut now most dev es all = subst (λ (w : List ℕ). AreCutWords most dev es w) (append-nil now) (all [] refl)

-- the pieces are changes
all_joined : (version : ℕ) (front rest : List Extent) → AllByRecursion (IsChange version) (map taken front) → AllByRecursion (IsChange version) (map taken rest) → AllByRecursion (IsChange version) (map taken (front ++ rest))
all_joined version [] rest a b = b
all_joined version (e ∷ front) rest a b = (a.0, all_joined version front rest a.1 b)

pieces_lawful : (version most from : ℕ) (runs : List Extent) → most ≡ longest_run version → 0 < most → IsCutFrom most from runs → from + unit_count runs ≤ 2 ^ 47 → AllByRecursion (IsChange version) (map taken runs)
pieces_lawful version most from [] is some cut within = tt
pieces_lawful version most from (e ∷ []) is some cut within = (record { some = cut.1; most = omega (arith, is, cut.2); place = omega (arith, cut.0, cut.1, within) }, tt)
pieces_lawful version most from (e ∷ f ∷ runs) is some cut within = (
  record { some = omega (arith, cut.1, some); most = omega (arith, is, cut.1); place = omega (arith, cut.0, cut.1, some, within) },
  pieces_lawful version most (from + most) (f ∷ runs) is some cut.2 (omega (arith, cut.1, within)),
)

pub cuts_lawful : (version most : ℕ) (es runs : List Extent) → most ≡ longest_run version → 0 < most → AllByRecursion IsPlaced es → AreCut most es runs → AllByRecursion (IsChange version) (map taken runs)
cuts_lawful version most [] runs is some placed cut = subst (λ (rs : List Extent). AllByRecursion (IsChange version) (map taken rs)) (sym cut) tt
cuts_lawful version most (e ∷ es) runs is some placed (front, rest, joined, here, later) =
    subst (λ (rs : List Extent). AllByRecursion (IsChange version) (map taken rs)) (sym joined)
    (all_joined version front rest
    (pieces_lawful version most e.start front is some here.cut (omega (arith, here.count, placed.0.place)))
    (cuts_lawful version most es rest is some placed.1 later))

-- how many words an extent in pieces has, in version 1 ..
pieces_short : (dev from : ℕ) (runs : List Extent) → IsCutFrom 32768 from runs → length (taken_words dev runs) ≡ div_ceil (unit_count runs) 32768
pieces_short dev from [] cut = refl
pieces_short dev from (e ∷ []) cut =
    let one : change_words dev (taken e) ≡ (2 ^ 16 * e.start + 2 ^ 15 * 0 + (e.len - 1)) ∷ [] = short_words dev (taken e) cut.2 in
    rw one (omega (arith, cut.1, cut.2))
pieces_short dev from (e ∷ f ∷ runs) cut =
    let one : change_words dev (taken e) ≡ (2 ^ 16 * e.start + 2 ^ 15 * 0 + (e.len - 1)) ∷ [] = short_words dev (taken e) (omega (arith, cut.1)) in
    let rest : length (taken_words dev (f ∷ runs)) ≡ div_ceil (unit_count (f ∷ runs)) 32768 = pieces_short dev (from + 32768) (f ∷ runs) cut.2 in
    grind (arith, common_steps, one, rest, cut.1)

-- .. and in version 2
pieces_long : (dev from : ℕ) (runs : List Extent) → IsCutFrom (2 ^ 36) from runs → 0 < unit_count runs → unit_count runs ≤ 2 ^ 36 → length (taken_words dev runs) ≡ (if nat_le (unit_count runs) 32768 then 1 else 2)
pieces_long dev from [] cut some most = absurd (omega arith)
pieces_long dev from (e ∷ []) cut some most =
    ⊎_elim
    (λ long. grind (arith, nat_tests, common_steps, long, long_words dev (taken e) long))
    (λ short. grind (arith, nat_tests, common_steps, short, short_words dev (taken e) short))
    (cases_lt 32768 e.len)
pieces_long dev from (e ∷ f ∷ []) cut some most = absurd (omega (arith, cut.1, cut.2.1, most))
pieces_long dev from (e ∷ f ∷ g ∷ runs) cut some most = absurd (omega (arith, cut.1, cut.2.1, most))

joined_length : (dev : ℕ) (front rest : List Extent) → length (taken_words dev (front ++ rest)) ≡ length (taken_words dev front) + length (taken_words dev rest)
joined_length dev front rest = rw (words_joined dev front rest) (grind (arith, common_steps))

count_short : (dev : ℕ) (es runs : List Extent) → AreCut 32768 es runs → length (taken_words dev runs) ≡ set_words 1 es
count_short dev [] runs cut = subst (λ (rs : List Extent). length (taken_words dev rs) ≡ 0) (sym cut) refl
count_short dev (e ∷ es) runs (front, rest, joined, here, later) =
    subst (λ (rs : List Extent). length (taken_words dev rs) ≡ set_words 1 (e ∷ es)) (sym joined)
    (grind (arith, common_steps, joined_length dev front rest, pieces_short dev e.start front here.cut, here.count, count_short dev es rest later))

count_long : (dev : ℕ) (es runs : List Extent) → AllByRecursion (λ (e : Extent). (0 < e.len) × (e.len ≤ 2 ^ 36)) es → AreCut (2 ^ 36) es runs → length (taken_words dev runs) ≡ set_words 2 es
count_long dev [] runs all cut = subst (λ (rs : List Extent). length (taken_words dev rs) ≡ 0) (sym cut) refl
count_long dev (e ∷ es) runs all (front, rest, joined, here, later) =
    subst (λ (rs : List Extent). length (taken_words dev rs) ≡ set_words 2 (e ∷ es)) (sym joined)
    (grind (arith, nat_tests, common_steps, joined_length dev front rest, pieces_long dev e.start front here.cut (omega (arith, here.count, all.0.0)) (omega (arith, here.count, all.0.1)), here.count, count_long dev es rest all.1 later))

all_within : (low high : ℕ) (es : List Extent) → IsMaximalFrom low es → ((u : ℕ) → has_unit es u ≡ true → u < high) → AllByRecursion (λ (e : Extent). (0 < e.len) × (e.len ≤ high)) es
all_within low high [] m within = tt
all_within low high (e ∷ es) m within =
    let last : e.start + e.len - 1 < high = within (e.start + e.len - 1) (grind (arith, nat_tests, m.1)) in
    ((m.1, omega (arith, last, m.1)), all_within (e.start + e.len + 1) high es m.3 (λ u h. within u (grind (arith, nat_tests, h))))

pub reach_low : (version : ℕ) → (version ≡ 1) ⊎ (version ≡ 2) → reach version ≤ 2 ^ 47
reach_low version which = ⊎_elim (λ one. grind (arith, nat_tests, one)) (λ two. grind (arith, nat_tests, two)) which

-- the words of a set in pieces are the set anew
pub is_anew : (version dev most : ℕ) (es : List Extent) (words : List ℕ) → (version ≡ 1) ⊎ (version ≡ 2) → most ≡ longest_run version → 0 < most → IsMaximal es → IsInReach version es → AreCutWords most dev es words → IsAnew version dev es words
is_anew version dev most es words which is some m within c = record {
  runs = c.runs;
  cut = subst (λ (n : ℕ). AreCut n es c.runs) is c.cut;
  spelling = record {
    lawful = cuts_lawful version most es c.runs is some (all_placed 0 es m (λ u h. omega (arith, within u h, reach_low version which))) c.cut;
    spelling = sym c.words_are;
  };
}

-- .. and as many as they should be
pub anew_length : (version dev : ℕ) (es : List Extent) (words : List ℕ) → (version ≡ 1) ⊎ (version ≡ 2) → IsMaximal es → IsInReach version es → IsAnew version dev es words → length words ≡ set_words version es
anew_length version dev es words which m within a =
    ⊎_elim
    (λ one.
    let P : ℕ → Type 0 = λ v. AreCut (longest_run v) es a.runs → length (taken_words dev a.runs) ≡ set_words v es in
    rw a.spelling.spelling (subst P (sym one) (λ cut. count_short dev es a.runs cut) a.cut))
    (λ two.
    let P : ℕ → Type 0 = λ v. IsInReach v es → AreCut (longest_run v) es a.runs → length (taken_words dev a.runs) ≡ set_words v es in
    rw a.spelling.spelling (subst P (sym two) (λ inside cut. count_long dev es a.runs (all_within 0 (2 ^ 36) es m inside) cut) within a.cut))
    which
