-- The words of a log spell one list of changes, and leave one set.
use Rattle.std.proofs.Common.{◌≡◌, ◌⊎◌, ℕ, ◌+◌, ◌-◌, ◌*◌, ◌^◌, ◌<◌, ◌≤◌, List, [], ◌∷◌, ◌++◌, length, zero, suc, take, get_or, Bool, true, false, refl, sym, ap, subst, ◌∙◌, ⊎_elim, arith}
use Rattle.std.specs.List.{AllByRecursion, flat_map}
use Rattle.std.proofs.lemmas.List.{length-append}
use Rattle.std.proofs.lemmas.Bool.{cases_lt, false≢true}
use Rattle.std.proofs.lemmas.Bool.Decides.{nat_tests}
use Rattle.zr_base.specs.declared.space.Extent.{Extent}
use Rattle.zr_base.specs.declared.space.Change.{Change}
use Rattle.zr_base.specs.Extents.{EndsBy, IsMaximal}
use Rattle.zr_base.proofs.ExtentSets.{same_extents, none_from}
use Rattle.zr_rules.specs.Places.{one_if}
use Rattle.zr_rules.specs.Logs.{change_words, IsChange, SpellsChanges, IsReplay, IsInTurn, IsAnew, taken_after}
use Rattle.zr_smap.specs.Cuts.{IsInReach, reach}
use Rattle.zr_smap.proofs.Spelling.{short_words, long_words}
use Rattle.zr_smap.proofs.Cutting.{anew_length}
use Rattle.zr_meta.specs.Streams.{IsLogOf, IsFit}

-- ---- changes

abbrev made : Bool → ℕ → ℕ → Change
made free start len = record { free = free; at = record { start = start; len = len } }

same_change : (c : Change) (free : Bool) (start len : ℕ) → free ≡ c.free → start ≡ c.at.start → len ≡ c.at.len → made free start len ≡ c
same_change c free start len e1 e2 e3 = rw (e1, e2, e3) refl

same_bool : (x y : Bool) → one_if x ≡ one_if y → x ≡ y
same_bool true true e = refl
same_bool true false e = absurd (omega arith)
same_bool false true e = absurd (omega arith)
same_bool false false e = refl

bit : (b : Bool) → one_if b ≤ 1
bit true = omega arith
bit false = omega arith

short_parts : (a f l b g m : ℕ) → f ≤ 1 → g ≤ 1 → 1 ≤ l → l ≤ 32768 → 1 ≤ m → m ≤ 32768 → 2 ^ 16 * a + 2 ^ 15 * f + (l - 1) ≡ 2 ^ 16 * b + 2 ^ 15 * g + (m - 1) → (a ≡ b) × (f ≡ g) × (l ≡ m)
short_parts a f l b g m hf hg hl hl2 hm hm2 e = (omega arith, omega arith, omega arith)

long_parts : (a f l b g m dev : ℕ) → f ≤ 1 → g ≤ 1 → 1 ≤ l → 1 ≤ m → a < 2 ^ 47 → b < 2 ^ 47 → 3 * 2 ^ 62 + 2 ^ 24 * (l - 1) + dev ≡ 3 * 2 ^ 62 + 2 ^ 24 * (m - 1) + dev → 2 ^ 63 * f + a ≡ 2 ^ 63 * g + b → (a ≡ b) × (f ≡ g) × (l ≡ m)
long_parts a f l b g m dev hf hg hl hm ha hb e1 e2 = (omega arith, omega arith, omega arith)

apart : (a f l m dev : ℕ) → f ≤ 1 → l ≤ 32768 → a < 2 ^ 47 → 2 ^ 16 * a + 2 ^ 15 * f + (l - 1) ≡ 3 * 2 ^ 62 + 2 ^ 24 * (m - 1) + dev → ⊥
apart a f l m dev hf hl ha e = omega arith

first_is : (x y : ℕ) (xs ys : List ℕ) → x ∷ xs ≡ y ∷ ys → (x ≡ y) × (xs ≡ ys)
first_is x y xs ys e = (cc, cc)

-- a change is told from the words that begin with it
one_change : (version dev : ℕ) (c d : Change) (r s : List ℕ) → IsChange version c → IsChange version d → change_words dev c ++ r ≡ change_words dev d ++ s → (c ≡ d) × (r ≡ s)
one_change version dev c d r s h k e =
    ⊎_elim
    (λ c-long. ⊎_elim
    (λ d-long.
    let a = first_is _ _ _ _ (ap (λ (t : List ℕ). t ++ r) (sym (long_words dev c c-long)) ∙ (e ∙ ap (λ (t : List ℕ). t ++ s) (long_words dev d d-long))) in
    let b = first_is _ _ _ _ a.1 in
    let p = long_parts c.at.start (one_if c.free) c.at.len d.at.start (one_if d.free) d.at.len dev (bit c.free) (bit d.free) h.some k.some h.place k.place a.0 b.0 in
    (same_change d c.free c.at.start c.at.len (same_bool c.free d.free p.1) p.0 p.2, b.1))
    (λ d-short.
    let a = first_is _ _ _ _ (ap (λ (t : List ℕ). t ++ r) (sym (long_words dev c c-long)) ∙ (e ∙ ap (λ (t : List ℕ). t ++ s) (short_words dev d d-short))) in
    absurd (apart d.at.start (one_if d.free) d.at.len c.at.len dev (bit d.free) d-short k.place (sym a.0)))
    (cases_lt 32768 d.at.len))
    (λ c-short. ⊎_elim
    (λ d-long.
    let a = first_is _ _ _ _ (ap (λ (t : List ℕ). t ++ r) (sym (short_words dev c c-short)) ∙ (e ∙ ap (λ (t : List ℕ). t ++ s) (long_words dev d d-long))) in
    absurd (apart c.at.start (one_if c.free) c.at.len d.at.len dev (bit c.free) c-short h.place a.0))
    (λ d-short.
    let a = first_is _ _ _ _ (ap (λ (t : List ℕ). t ++ r) (sym (short_words dev c c-short)) ∙ (e ∙ ap (λ (t : List ℕ). t ++ s) (short_words dev d d-short))) in
    let p = short_parts c.at.start (one_if c.free) c.at.len d.at.start (one_if d.free) d.at.len (bit c.free) (bit d.free) h.some c-short k.some d-short a.0 in
    (same_change d c.free c.at.start c.at.len (same_bool c.free d.free p.1) p.0 p.2, a.1))
    (cases_lt 32768 d.at.len))
    (cases_lt 32768 c.at.len)

some_words : (dev : ℕ) (c : Change) → 0 < length (change_words dev c)
some_words dev c =
    ⊎_elim (λ long. let e = ap length (long_words dev c long) in omega arith) (λ short. let e = ap length (short_words dev c short) in omega arith) (cases_lt 32768 c.at.len)

no_words : (dev : ℕ) (c : Change) (rest : List ℕ) → [] ≡ change_words dev c ++ rest → ⊥
no_words dev c rest e = let all = ap length e in omega (arith, length-append (change_words dev c) rest, some_words dev c)

same_changes : (version dev : ℕ) (cs ds : List Change) → AllByRecursion (IsChange version) cs → AllByRecursion (IsChange version) ds → flat_map (change_words dev) cs ≡ flat_map (change_words dev) ds → cs ≡ ds
same_changes version dev [] [] h k e = refl
same_changes version dev [] (d ∷ ds) h k e = absurd (no_words dev d (flat_map (change_words dev) ds) e)
same_changes version dev (c ∷ cs) [] h k e = absurd (no_words dev c (flat_map (change_words dev) cs) (sym e))
same_changes version dev (c ∷ cs) (d ∷ ds) h k e =
    let one = one_change version dev c d (flat_map (change_words dev) cs) (flat_map (change_words dev) ds) h.0 k.0 e in
    ap (λ (x : Change). x ∷ cs) one.0 ∙ ap (λ (xs : List Change). d ∷ xs) (same_changes version dev cs ds h.1 k.1 one.1)

-- words spell at most one list of changes
pub one_list : (version dev : ℕ) (words : List ℕ) (cs ds : List Change) → SpellsChanges version dev words cs → SpellsChanges version dev words ds → cs ≡ ds
one_list version dev words cs ds h k = same_changes version dev cs ds h.lawful k.lawful (sym h.spelling ∙ k.spelling)

-- ---- ends

pub ends_more : (units i : ℕ) (es : List Extent) (d : Extent) → i < length es → EndsBy units (take i es) → (get_or es i d).start + (get_or es i d).len ≤ units → EndsBy units (take (i + 1) es)
ends_more units i [] d lt h last = absurd (omega arith)
ends_more units zero (e ∷ es) d lt h last = (last, tt)
ends_more units (suc i) (e ∷ es) d lt h last = let n : suc i + 1 ≡ suc (i + 1) = omega arith in rw n (h.0, ends_more units i es d (omega arith) h.1 last)

pub end_past : (units i : ℕ) (es : List Extent) (d : Extent) → i < length es → units < (get_or es i d).start + (get_or es i d).len → EndsBy units es → ⊥
end_past units i [] d lt past h = omega arith
end_past units zero (e ∷ es) d lt past h = omega (arith, h.0)
end_past units (suc i) (e ∷ es) d lt past h = end_past units i es d (omega arith) past h.1

reach_high : (version : ℕ) → (version ≡ 1) ⊎ (version ≡ 2) → 2 ^ 36 ≤ reach version
reach_high version which = ⊎_elim (λ one. grind (arith, nat_tests, one)) (λ two. grind (arith, nat_tests, two)) which

pub reach_of : (version units : ℕ) (es : List Extent) → (version ≡ 1) ⊎ (version ≡ 2) → units ≤ 2 ^ 36 → EndsBy units es → IsInReach version es
reach_of version units es which small ends u has =
    ⊎_elim (λ lt. omega (arith, reach_high version which)) (λ ge. absurd (false≢true (sym (none_from units es ends u ge) ∙ has))) (cases_lt u units)

-- ---- logs

-- a set that is fit for so many words, by any words of it anew
pub fit_by : (version dev units words : ℕ) (es : List Extent) (anew : List ℕ) → (version ≡ 1) ⊎ (version ≡ 2) → units ≤ 2 ^ 36 → IsMaximal es → IsAnew version dev es anew → IsFit version dev units words es → words ≤ 2 * length anew + 512
fit_by version dev units words es anew which small m a h =
    let r = reach_of version units es which small h.within in
    omega (arith, h.short, anew_length version dev es h.anew which m r h.is_anew, anew_length version dev es anew which m r a)

pub log_is : (version dev units : ℕ) (words : List ℕ) (changes : List Change) (es : List Extent) → SpellsChanges version dev words changes → IsReplay changes es → IsFit version dev units (length words) es → IsLogOf version dev units words es
log_is version dev units words changes es s r f = record {
  log = record { changes = changes; spelling = s; replay = r; anew = f.anew; is_anew = f.is_anew; short = f.short };
  within = f.within;
}

pub set_is : (version dev units : ℕ) (words : List ℕ) (changes : List Change) (es fs : List Extent) → SpellsChanges version dev words changes → IsReplay changes fs → IsLogOf version dev units words es → es ≡ fs
set_is version dev units words changes es fs s r h =
    let same = one_list version dev words h.log.changes changes h.log.spelling s in
    same_extents 0 0 es fs h.log.replay.maximal r.maximal
    (λ u. h.log.replay.members u ∙ (ap (λ (cs : List Change). taken_after false cs u) same ∙ sym (r.members u)))

-- changes that do not replay are no log
pub no_log : (version dev units : ℕ) (words : List ℕ) (changes : List Change) → SpellsChanges version dev words changes → (((u : ℕ) → IsInTurn false changes u) → ⊥) → (es : List Extent) → IsLogOf version dev units words es → ⊥
no_log version dev units words changes s none es h =
    let same = one_list version dev words h.log.changes changes h.log.spelling s in
    none (λ u. subst (λ (cs : List Change). IsInTurn false cs u) same (h.log.replay.turns u))

-- a set that is not fit has no log of these words
pub no_fit : (version dev units : ℕ) (words : List ℕ) (changes : List Change) (fs : List Extent) → SpellsChanges version dev words changes → IsReplay changes fs → (IsFit version dev units (length words) fs → ⊥) → (es : List Extent) → IsLogOf version dev units words es → ⊥
no_fit version dev units words changes fs s r none es h =
    let same = set_is version dev units words changes es fs s r h in
    none (subst (IsFit version dev units (length words)) same (record { within = h.within; anew = h.log.anew; is_anew = h.log.is_anew; short = h.log.short }))

-- words are the log of at most one set
pub one_log : (version dev units : ℕ) (words : List ℕ) (es fs : List Extent) → IsLogOf version dev units words es → IsLogOf version dev units words fs → es ≡ fs
one_log version dev units words es fs h k = set_is version dev units words k.log.changes es fs k.log.spelling k.log.replay h
