-- Words that are no change of version 1.
use Rattle.std.proofs.Common.{◌≡◌, ◌≤◌, ◌+◌, ◌-◌, ◌*◌, ◌^◌, ◌++◌, ◌∷◌, [], List, Bool, true, false, nat_le, arith}
use Rattle.std.specs.List.{flat_map}
use Rattle.std.proofs.lemmas.Bool.Decides.{nat_tests}
use Rattle.zr_base.specs.declared.space.Change.{Change}
use Rattle.zr_rules.specs.Places.{one_if}
use Rattle.zr_rules.specs.Logs.{change_words, IsChange, SpellsChanges}

at_most_one : (b : Bool) → one_if b ≤ 1
at_most_one true = omega arith
at_most_one false = omega arith

high_change : (c : Change) (more : List Change) → IsChange 1 c → (2 ^ 63 ∷ []) ≡ change_words 0 c ++ flat_map (change_words 0) more → ⊥
high_change c more lawful is =
    let short : nat_le c.at.len 32768 ≡ true = grind (arith, nat_tests, lawful.most) in
    let words = rw short at is in
    let first : 2 ^ 63 ≡ 2 ^ 16 * c.at.start + 2 ^ 15 * one_if c.free + (c.at.len - 1) = cc in
    let one = at_most_one c.free in
    omega (arith, first, one, lawful.place, lawful.most)

pub no_high_word : (changes : List Change) → SpellsChanges 1 0 (2 ^ 63 ∷ []) changes → ⊥
no_high_word [] s = let is = s.spelling in absurd (cc)
no_high_word (c ∷ more) s = high_change c more s.lawful.0 s.spelling
