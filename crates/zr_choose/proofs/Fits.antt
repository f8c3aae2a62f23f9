-- What the lowest and the shortest fit are.
use Rattle.std.proofs.Common.{◌≡◌, ℕ, zero, suc, ◌+◌, ◌-◌, ◌≤◌, ◌<◌, ◌^◌, ◌⊎◌, inl, inr, ⊎_elim, List, [], ◌∷◌, None, length, take, Bool, true, get_or, min, arith, refl, add-one}
use Rattle.std.specs.Prelude.{nat_le, ◌&&◌, ◌==◌, position, if◌then◌else◌}
use Rattle.std.specs.List.{position_or_len}
use Rattle.std.proofs.lemmas.Bool.{cases_lt}
use Rattle.std.proofs.lemmas.Bool.Decides.{nat_tests}
use Rattle.std.proofs.lemmas.List.Quantifiers.{position-Some}
use Rattle.zr_base.specs.declared.space.Extent.{Extent}
use Rattle.zr_base.specs.declared.space.Policy.TheVariants.{First, Best}
use Rattle.zr_base.specs.Extents.{longest_len, unit_count, extent_at}
use Rattle.zr_rules.specs.Choices.{AreRuns, AreRunsFrom, IsPick, first_fit, best_fit, shortest_fit}

none_len : (want : ℕ) (runs : List Extent) → 0 < want → length runs ≤ position_or_len (λ (e : Extent). nat_le want e.len) runs → longest_len runs < want
none_len want [] some h = some
none_len want (e ∷ es) some h =
    let rest : length es ≤ position_or_len (λ (e : Extent). nat_le want e.len) es → longest_len es < want = none_len want es some in
    grind (arith, nat_tests, rest, h)

none_fits : (want : ℕ) (runs : List Extent) → 0 < want → first_fit want runs ≡ None → longest_len runs < want
none_fits want runs some h =
    let rest : length runs ≤ position_or_len (λ (e : Extent). nat_le want e.len) runs → longest_len runs < want = none_len want runs some in
    grind (arith, nat_tests, rest, h)

pub first_fit_is : (want : ℕ) (runs : List Extent) → 0 < want → IsPick First want runs (first_fit want runs)
first_fit_is want runs some = record {
  index = λ i h. (position-Some (λ (e : Extent). nat_le want e.len) runs i (record { start = 0; len = 0 }) h).0;
  fits = λ i h. let p = (position-Some (λ (e : Extent). nat_le want e.len) runs i (record { start = 0; len = 0 }) h).1 in grind (arith, nat_tests, p);
  none = λ h. none_fits want runs some h;
  named = λ _. refl;
}

-- two tests that agree on a list find the same place
same_place : (p q : Extent → Bool) (xs : List Extent) → ((i : ℕ) → i < length xs → p (extent_at xs i) ≡ q (extent_at xs i)) → position_or_len p xs ≡ position_or_len q xs
same_place p q [] same = refl
same_place p q (x ∷ xs) same =
    let here : p x ≡ q x = same zero (omega arith) in
    let rest : position_or_len p xs ≡ position_or_len q xs = same_place p q xs (λ i lt. same (suc i) (omega arith)) in
    rw (here, rest) refl

-- a place that passes is at the first that passes or behind it
found_by : (p : Extent → Bool) (xs : List Extent) (i : ℕ) → i < length xs → p (extent_at xs i) ≡ true → position_or_len p xs ≤ i
found_by p [] i lt passes = absurd (omega arith)
found_by p (x ∷ xs) zero lt passes = rw passes (omega arith)
found_by p (x ∷ xs) (suc i) lt passes =
    let rest : position_or_len p xs ≤ i = found_by p xs i (omega arith) passes in
    grind (arith, rest)

-- the shortest fit from a lower start
shortest_from : (m n want : ℕ) (es : List Extent) → m ≤ n → shortest_fit m want es ≡ min m (shortest_fit n want es)
shortest_from m n want [] le = omega arith
shortest_from m n want (e ∷ es) le = let rest : shortest_fit m want es ≡ min m (shortest_fit n want es) = shortest_from m n want es le in grind (arith, nat_tests, rest)

-- no run that fits is shorter
no_shorter : (n want i : ℕ) (es : List Extent) → i < length es → want ≤ (extent_at es i).len → shortest_fit n want es ≤ (extent_at es i).len
no_shorter n want i [] lt fits = absurd (omega arith)
no_shorter n want zero (e ∷ es) lt fits = grind (arith, nat_tests)
no_shorter n want (suc i) (e ∷ es) lt fits = let rest : shortest_fit n want es ≤ (extent_at es i).len = no_shorter n want i es (omega arith) fits in grind (arith, nat_tests, rest)

-- where none fits the start is left
none_shorter : (n want : ℕ) (es : List Extent) → longest_len es < want → shortest_fit n want es ≡ n
none_shorter n want [] lt = refl
none_shorter n want (e ∷ es) lt = let rest : shortest_fit n want es ≡ n = none_shorter n want es (omega arith) in grind (arith, nat_tests, rest)

-- a run that fits and is the shortest
record HasShortest (n want : ℕ) (es : List Extent) : Type 0 where
  index : ℕ
  inside : index < length es
  fits : want ≤ (extent_at es index).len
  shortest : (extent_at es index).len ≡ shortest_fit n want es

shortest_later : (n want : ℕ) (e : Extent) (es : List Extent) → HasShortest n want es → shortest_fit n want (e ∷ es) ≡ shortest_fit n want es → HasShortest n want (e ∷ es)
shortest_later n want e es h same = record { index = suc h.index; inside = omega (arith, h.inside); fits = h.fits; shortest = omega (arith, h.shortest, same) }

-- no run is longer than this
abbrev pub AllBelow : ℕ → List Extent → Type 0
AllBelow n [] = Unit {0}
AllBelow n (e ∷ es) = (e.len ≤ n) × AllBelow n es

pub below_of_runs : (low : ℕ) (es : List Extent) → AreRunsFrom low es → AllBelow (2 ^ 64 - 1) es
below_of_runs low [] m = tt
below_of_runs low (e ∷ es) m = (omega (arith, m.1), below_of_runs (e.start + e.len) es m.2)

shortest_there : (n want : ℕ) (es : List Extent) → 0 < want → AllBelow n es → (longest_len es < want) ⊎ HasShortest n want es
shortest_there n want [] some below = inl some
shortest_there n want (e ∷ es) some below =
    ⊎_elim
    (λ lt. ⊎_elim
    (λ short. inl (omega arith))
    (λ h. inr (shortest_later n want e es h (grind (arith, nat_tests, lt))))
    (shortest_there n want es some below.1))
    (λ ge. ⊎_elim
    (λ short. inr (record { index = zero; inside = omega arith; fits = ge; shortest = grind (arith, nat_tests, none_shorter n want es short, below.0) }))
    (λ h. ⊎_elim
    (λ less. inr (shortest_later n want e es h (grind (arith, nat_tests, less))))
    (λ more. inr (record { index = zero; inside = omega arith; fits = ge; shortest = grind (arith, nat_tests, more) }))
    (cases_lt (shortest_fit n want es) e.len))
    (shortest_there n want es some below.1))
    (cases_lt e.len want)

-- has so many units and is as long
abbrev pub is_as_long : ℕ → ℕ → Extent → Bool
is_as_long want len e = nat_le want e.len && (e.len == len)

none_best : (n want : ℕ) (runs : List Extent) → 0 < want → AllBelow n runs → position (is_as_long want (shortest_fit n want runs)) runs ≡ None → longest_len runs < want
none_best n want runs some below h =
    ⊎_elim
    (λ short. short)
    (λ s.
    let by : position_or_len (is_as_long want (shortest_fit n want runs)) runs ≤ s.index = found_by (is_as_long want (shortest_fit n want runs)) runs s.index s.inside (grind (arith, nat_tests, s.fits, s.shortest)) in
    absurd (grind (arith, nat_tests, by, s.inside, h)))
    (shortest_there n want runs some below)

below_at : (n i : ℕ) (es : List Extent) → AllBelow n es → i < length es → (extent_at es i).len ≤ n
below_at n i [] below lt = absurd (omega arith)
below_at n zero (e ∷ es) below lt = below.0
below_at n (suc i) (e ∷ es) below lt = below_at n i es below.1 (omega arith)

-- as long as the shortest fit, or as the shortest fit that is no longer than itself
same_test : (n want i : ℕ) (runs : List Extent) → AllBelow n runs → i < length runs → is_as_long want (shortest_fit n want runs) (extent_at runs i) ≡ (nat_le want (extent_at runs i).len && ((extent_at runs i).len == shortest_fit (extent_at runs i).len want runs))
same_test n want i runs below lt =
    ⊎_elim
    (λ short. grind (arith, nat_tests, short))
    (λ fits. grind (arith, nat_tests, fits, no_shorter n want i runs lt fits, shortest_from (extent_at runs i).len n want runs (below_at n i runs below lt)))
    (cases_lt (extent_at runs i).len want)

best_named : (n want : ℕ) (runs : List Extent) → AllBelow n runs → position (is_as_long want (shortest_fit n want runs)) runs ≡ best_fit want runs
best_named n want runs below =
    let same : position_or_len (is_as_long want (shortest_fit n want runs)) runs ≡ position_or_len (λ (e : Extent). nat_le want e.len && (e.len == shortest_fit e.len want runs)) runs =
    same_place (is_as_long want (shortest_fit n want runs)) (λ (e : Extent). nat_le want e.len && (e.len == shortest_fit e.len want runs)) runs
    (λ i lt. same_test n want i runs below lt) in
    rw same refl

pub best_fit_is : (want : ℕ) (runs : List Extent) → 0 < want → AreRuns runs → IsPick Best want runs (position (is_as_long want (shortest_fit (2 ^ 64 - 1) want runs)) runs)
best_fit_is want runs some are = record {
  index = λ i h. (position-Some (is_as_long want (shortest_fit (2 ^ 64 - 1) want runs)) runs i (record { start = 0; len = 0 }) h).0;
  fits = λ i h. let p = (position-Some (is_as_long want (shortest_fit (2 ^ 64 - 1) want runs)) runs i (record { start = 0; len = 0 }) h).1 in grind (arith, nat_tests, p);
  none = λ h. none_best (2 ^ 64 - 1) want runs some (below_of_runs 0 runs are) h;
  named = λ _. best_named (2 ^ 64 - 1) want runs (below_of_runs 0 runs are);
}

-- the units of runs below 2 ^ 63
count_suc : (low i : ℕ) (xs : List Extent) → AreRunsFrom low xs → unit_count (take i xs) ≤ 2 ^ 63 - low
count_suc low zero xs m = omega arith
count_suc low (suc i) [] m = omega arith
count_suc low (suc i) (x ∷ xs) m = omega (arith, count_suc (x.start + x.len) i xs m.2, m.0, m.1)

pub count_within : (i : ℕ) (xs : List Extent) → AreRuns xs → unit_count (take i xs) ≤ 2 ^ 63
count_within i xs m = omega (arith, count_suc 0 i xs m)

shortest_suc : (n want i : ℕ) (xs : List Extent) (d : Extent) → i < length xs → shortest_fit n want (take (suc i) xs) ≡ (if nat_le want (get_or xs i d).len then min (shortest_fit n want (take i xs)) (get_or xs i d).len else shortest_fit n want (take i xs))
shortest_suc n want i [] d lt = absurd (omega arith)
shortest_suc n want zero (x ∷ xs) d lt = grind (arith, nat_tests)
shortest_suc n want (suc i) (x ∷ xs) d lt =
    let rest : shortest_fit n want (take (suc i) xs) ≡ (if nat_le want (get_or xs i d).len then min (shortest_fit n want (take i xs)) (get_or xs i d).len else shortest_fit n want (take i xs)) = shortest_suc n want i xs d (omega arith) in
    grind (arith, nat_tests, rest)

-- one more run
pub shortest_more : (n want i : ℕ) (xs : List Extent) (d : Extent) → i < length xs → shortest_fit n want (take (i + 1) xs) ≡ (if nat_le want (get_or xs i d).len then min (shortest_fit n want (take i xs)) (get_or xs i d).len else shortest_fit n want (take i xs))
shortest_more n want i xs d lt = rw add-one (shortest_suc n want i xs d lt)
