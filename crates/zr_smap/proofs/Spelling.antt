-- What a first word says of the changes that are spelled so.
use Rattle.std.proofs.Common.{◌≡◌, ℕ, ◌+◌, ◌-◌, ◌*◌, ◌^◌, ◌<◌, ◌≤◌, List, [], ◌∷◌, ◌++◌, arith, ⊎_elim, sym, subst, append_assoc, append-nil}
use Rattle.std.specs.List.{flat_map, AllByRecursion}
use Rattle.std.proofs.lemmas.Bool.{cases_lt}
use Rattle.std.proofs.lemmas.Bool.Decides.{nat_tests}
use Rattle.std.proofs.lemmas.Grind.{flat_map-append}
use Rattle.zr_base.specs.declared.space.Change.{Change}
use Rattle.zr_rules.specs.Places.{one_if}
use Rattle.zr_rules.specs.Logs.{change_words, IsChange}
use Rattle.zr_smap.specs.Spellings.{SpellsNothing}

pub short_words : (dev : ℕ) (c : Change) → c.at.len ≤ 32768 → change_words dev c ≡ (2 ^ 16 * c.at.start + 2 ^ 15 * one_if c.free + (c.at.len - 1)) ∷ []
short_words dev c le = grind (arith, nat_tests, le)

pub long_words : (dev : ℕ) (c : Change) → 32768 < c.at.len → change_words dev c ≡ (3 * 2 ^ 62 + 2 ^ 24 * (c.at.len - 1) + dev) ∷ (2 ^ 63 * one_if c.free + c.at.start) ∷ []
long_words dev c lt = grind (arith, nat_tests, lt)

one_if_le : (c : Change) → one_if c.free ≤ 1
one_if_le c = grind arith

-- a short word stands for itself
pub past_short : (version dev word : ℕ) (tail : List ℕ) → word < 2 ^ 63 → SpellsNothing version dev tail → SpellsNothing version dev (word ∷ tail)
past_short version dev word tail lt none [] s = absurd (grind (arith, s.spelling))
past_short version dev word tail lt none (c ∷ cs) s =
    ⊎_elim
    (λ long. absurd (grind (arith, s.spelling, long_words dev c long, lt)))
    (λ short. none cs (record { lawful = s.lawful.1; spelling = grind (arith, s.spelling, short_words dev c short) }))
    (cases_lt 32768 c.at.len)

-- a long word and its second stand for themselves
pub past_long : (version dev word second : ℕ) (tail : List ℕ) → 2 ^ 63 ≤ word → SpellsNothing version dev tail → SpellsNothing version dev (word ∷ second ∷ tail)
past_long version dev word second tail ge none [] s = absurd (grind (arith, s.spelling))
past_long version dev word second tail ge none (c ∷ cs) s =
    ⊎_elim
    (λ long. none cs (record { lawful = s.lawful.1; spelling = grind (arith, s.spelling, long_words dev c long) }))
    (λ short.
    let is : word ≡ 2 ^ 16 * c.at.start + 2 ^ 15 * one_if c.free + (c.at.len - 1) = grind (arith, s.spelling, short_words dev c short) in
    absurd (omega (arith, is, s.lawful.0.place, one_if_le c, short)))
    (cases_lt 32768 c.at.len)

-- version 1 has no long words
pub no_long : (dev word : ℕ) (tail : List ℕ) → 2 ^ 63 ≤ word → SpellsNothing 1 dev (word ∷ tail)
no_long dev word tail ge [] s = absurd (grind (arith, s.spelling))
no_long dev word tail ge (c ∷ cs) s =
    let is : word ≡ 2 ^ 16 * c.at.start + 2 ^ 15 * one_if c.free + (c.at.len - 1) = grind (arith, s.spelling, short_words dev c s.lawful.0.most) in
    absurd (omega (arith, is, s.lawful.0.place, one_if_le c, s.lawful.0.most))

-- a long word does not stand alone
pub not_alone : (version dev word : ℕ) → 2 ^ 63 ≤ word → SpellsNothing version dev (word ∷ [])
not_alone version dev word ge [] s = absurd (grind (arith, s.spelling))
not_alone version dev word ge (c ∷ cs) s =
    ⊎_elim
    (λ long. absurd (grind (arith, s.spelling, long_words dev c long)))
    (λ short.
    let is : word ≡ 2 ^ 16 * c.at.start + 2 ^ 15 * one_if c.free + (c.at.len - 1) = grind (arith, s.spelling, short_words dev c short) in
    absurd (omega (arith, is, s.lawful.0.place, one_if_le c, short)))
    (cases_lt 32768 c.at.len)

-- two words that are no change begin no spelling
pub no_change : (dev word second : ℕ) (tail : List ℕ) → 2 ^ 63 ≤ word → ((c : Change) → IsChange 2 c → change_words dev c ≡ word ∷ second ∷ [] → ⊥) → SpellsNothing 2 dev (word ∷ second ∷ tail)
no_change dev word second tail ge none [] s = absurd (grind (arith, s.spelling))
no_change dev word second tail ge none (c ∷ cs) s =
    ⊎_elim
    (λ long. none c s.lawful.0 (grind (arith, s.spelling, long_words dev c long)))
    (λ short.
    let is : word ≡ 2 ^ 16 * c.at.start + 2 ^ 15 * one_if c.free + (c.at.len - 1) = grind (arith, s.spelling, short_words dev c short) in
    absurd (omega (arith, is, s.lawful.0.place, one_if_le c, short)))
    (cases_lt 32768 c.at.len)

-- one change more is spelled
pub lawful_more : (version : ℕ) (cs : List Change) (c : Change) → AllByRecursion (IsChange version) cs → IsChange version c → AllByRecursion (IsChange version) (cs ++ c ∷ [])
lawful_more version [] c all here = (here, tt)
lawful_more version (x ∷ cs) c all here = (all.0, lawful_more version cs c all.1 here)

pub words_more : (dev : ℕ) (cs : List Change) (c : Change) (front tail rest words : List ℕ) → change_words dev c ≡ front → front ++ tail ≡ rest → flat_map (change_words dev) cs ++ rest ≡ words → flat_map (change_words dev) (cs ++ c ∷ []) ++ tail ≡ words
words_more dev cs c front tail rest words is split all =
    rw (flat_map-append (change_words dev) cs (c ∷ []), append-nil (change_words dev c), is, append_assoc) (rw split all)

pub nothing_at_two : (version dev : ℕ) (words : List ℕ) → version ≡ 2 → SpellsNothing 2 dev words → SpellsNothing version dev words
nothing_at_two version dev words is none = subst (λ (v : ℕ). SpellsNothing v dev words) (sym is) none

pub nothing_at_one : (version dev : ℕ) (words : List ℕ) → version ≡ 1 → SpellsNothing 1 dev words → SpellsNothing version dev words
nothing_at_one version dev words is none = subst (λ (v : ℕ). SpellsNothing v dev words) (sym is) none
