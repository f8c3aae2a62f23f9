-- Paths that differ have slots that differ.
use Rattle.std.proofs.Common.{◌≡◌, ℕ, zero, suc, ◌<◌, Bool, true, false, not, List, [], ◌∷◌, length, get_or, Some, refl, sym, ◌∙◌, ap, arith}
use Rattle.std.specs.Prelude.{◌&&◌}
use Rattle.std.specs.List.{list_all}
use Rattle.std.specs.Str.{bytes_eq}
use Rattle.std.proofs.lemmas.List.Folds.{list_all_at}
use Rattle.std.proofs.lemmas.List.Quantifiers.{position-Some}
use Rattle.std.proofs.lemmas.Slice.Eq.{bytes_eq-Decides}
use Rattle.zr_script.specs.Words.{are_different}
use Rattle.zr_slots.specs.Checks.{AreNamed}
use Rattle.zr_create.specs.Names.{slot_named, AreSlotsOf, AreApart}

both : (a b : Bool) → (a && b) ≡ true → (a ≡ true) × (b ≡ true)
both true true is = (refl, refl)
both true false is = (refl, is)
both false b is = absurd cc

-- a word is not one of those after it
not_again : (word : List ℕ) (words : List (List ℕ)) (j : ℕ) → list_all (λ other. not (bytes_eq other word)) words ≡ true → j < length words → ¬ (word ≡ get_or words j [])
not_again word words j all lt same =
    let met : bytes_eq (get_or words j []) word ≡ true = (bytes_eq-Decides (get_or words j []) word).1 (sym same) in
    let fails : true ≡ false = sym all ∙ list_all_at (λ other. not (bytes_eq other word)) words j [] lt (ap not met) in
    cc

one_place : (words : List (List ℕ)) (i j : ℕ) → are_different words ≡ true → i < length words → j < length words → get_or words i [] ≡ get_or words j [] → i ≡ j
one_place [] i j differ ilt jlt same = absurd (omega arith)
one_place (word ∷ words) zero zero differ ilt jlt same = refl
one_place (word ∷ words) zero (suc j) differ ilt jlt same = absurd (not_again word words j (both _ _ differ).0 (omega arith) same)
one_place (word ∷ words) (suc i) zero differ ilt jlt same = absurd (not_again word words i (both _ _ differ).0 (omega arith) (sym same))
one_place (word ∷ words) (suc i) (suc j) differ ilt jlt same = ap suc (one_place words i j (both _ _ differ).1 (omega arith) (omega arith) same)

pub found : (paths : List (List ℕ)) (dev : List ℕ) (slot : ℕ) → slot_named paths dev ≡ Some slot → (slot < length paths) × (dev ≡ get_or paths slot [])
found paths dev slot is = let at = position-Some (bytes_eq dev) paths slot [] is in (at.0, (bytes_eq-Decides dev (get_or paths slot [])).0 at.1)

pub apart : (paths devs : List (List ℕ)) (slots : List ℕ) → AreSlotsOf paths devs slots → are_different devs ≡ true → AreApart slots
apart paths devs slots are differ i j ilt jlt same =
    let count = are.count in
    let iin : i < length devs = omega (arith, ilt, count) in
    let jin : j < length devs = omega (arith, jlt, count) in
    let first = (found paths (get_or devs i []) (get_or slots i 0) (are.each i iin)).1 in
    let second = (found paths (get_or devs j []) (get_or slots j 0) (are.each j jin)).1 in
    one_place devs i j differ iin jin (first ∙ (ap (λ (s : ℕ). get_or paths s []) same ∙ sym second))

pub are_named : (paths devs : List (List ℕ)) (slots : List ℕ) → AreSlotsOf paths devs slots → AreNamed (length paths) slots
are_named paths devs slots are k lt =
    let count = are.count in
    (found paths (get_or devs k []) (get_or slots k 0) (are.each k (omega (arith, lt, count)))).0
