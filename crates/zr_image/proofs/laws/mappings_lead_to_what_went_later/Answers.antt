use Rattle.std.proofs.Common.{◌≡◌, ◌<◌, ◌≤◌, ℕ, zero, suc, ◌+◌, ◌^◌, inl, inr, [], ◌∷◌, true, refl, arith}
use Rattle.std.specs.List.{AllByRecursion}
use Rattle.std.proofs.lemmas.List.Elements.{All-nil, All-cons, All-head}
use Rattle.zr_base.specs.declared.space.Entry.{Entry}
use Rattle.zr_rules.specs.Devices.{devices_of}
use Rattle.zr_rules.specs.Places.{is_leaving, state_of_dev}
use Rattle.zr_rules.specs.Mappings.{IsEntry}
use Rattle.zr_rules.specs.Resolve.{IsDestination, IsRanked}
use Rattle.zr_image.specs.Examples.{chain, parts_of}
use Rattle.zr_image.specs.Numbers.{Destinations, broken}
use Rattle.zr_image.specs.Rules.{HasLawfulEntries, HasLawfulRemoval}
use Rattle.zr_image.proofs.laws.mappings_lead_to_what_went_later.Goals as goal

abbrev first : Entry
first = record { src = 10; dev = 1; dst = 7; len = 3 }

abbrev second : Entry
second = record { src = 7; dev = 2; dst = 100; len = 1 }

abbrev third : Entry
third = record { src = 8; dev = 2; dst = 40; len = 2 }

lawful : (e : Entry) → 0 < e.len → e.len ≤ 256 → e.src + e.len ≤ 2 ^ 62 → e.dst + e.len ≤ 2 ^ 62 → IsEntry e
lawful e some short source to = record { not_empty = some; short = short; source = source; destination = to }

-- the mappings of the chain are in order, whenever the second device went
mappings : (n : ℕ) → AllByRecursion HasLawfulEntries (chain n)
mappings n = (
  record { rising = (omega arith, lawful first (omega arith) (omega arith) (omega arith) (omega arith), tt); within = (omega arith, tt); counts = (omega arith, tt); fresh = λ u h. absurd (cc) },
  (
    record {
      rising = (omega arith, lawful second (omega arith) (omega arith) (omega arith) (omega arith), (omega arith, lawful third (omega arith) (omega arith) (omega arith) (omega arith), tt));
      within = (omega arith, (omega arith, tt));
      counts = (omega arith, (omega arith, tt));
      fresh = λ u h. absurd (cc);
    },
    (record { rising = tt; within = tt; counts = tt; fresh = λ u h. absurd (cc) }, tt),
  ),
)

none_leaves : (n d : ℕ) → is_leaving (state_of_dev (chain n) d) ≡ true → ⊥
none_leaves n zero h = absurd (cc)
none_leaves n (suc zero) h = absurd (cc)
none_leaves n (suc (suc zero)) h = absurd (cc)
none_leaves n (suc (suc (suc d))) h = absurd (cc)

ranked : IsRanked (devices_of (chain 6))
ranked zero = All-cons (IsDestination (devices_of (chain 6)) 0) first [] (record { known = omega arith; other = λ e. absurd (cc); within = omega arith; later = inr (refl, omega arith) }) (All-nil (IsDestination (devices_of (chain 6)) 0))
ranked (suc zero) = All-cons (IsDestination (devices_of (chain 6)) 1) second (third ∷ []) (record { known = omega arith; other = λ e. absurd (cc); within = omega arith; later = inl refl })
    (All-cons (IsDestination (devices_of (chain 6)) 1) third [] (record { known = omega arith; other = λ e. absurd (cc); within = omega arith; later = inl refl }) (All-nil (IsDestination (devices_of (chain 6)) 1)))
ranked (suc (suc zero)) = All-nil (IsDestination (devices_of (chain 6)) 2)
ranked (suc (suc (suc d))) = All-nil (IsDestination (devices_of (chain 6)) (suc (suc (suc d))))

back : IsRanked (devices_of (chain 4)) → ⊥
back ranked =
    let there : IsDestination (devices_of (chain 4)) 0 first = All-head (IsDestination (devices_of (chain 4)) 0) first [] (ranked 0) in
    elim there.later [ inl here ↦ absurd (cc) | inr later ↦ let before : 5 < 4 = later.1 in absurd (omega arith) ]

removal : HasLawfulRemoval (parts_of (chain 6))
removal = record { one = λ a b a_leaves b_leaves. absurd (none_leaves 6 a a_leaves); each = λ d leaves. absurd (none_leaves 6 d leaves) }

pub returns-clause-later : goal.returns-clause-later
returns-clause-later c = inl (tt, mappings 6, inl (tt, ranked, inl (tt, tt, removal)))

pub returns-clause-back : goal.returns-clause-back
returns-clause-back c = inl (tt, mappings 4, inr (broken Destinations, (back, refl), refl))

pub returns-clause-never : goal.returns-clause-never
returns-clause-never c = λ outcome. elim outcome [ inl way ↦ elim way.2 [ inl next ↦ back next.1 | inr next ↦ absurd (cc) ] | inr way ↦ absurd (cc) ]
