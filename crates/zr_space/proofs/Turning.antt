-- Devices that are turned into others one after another, from the lowest.
use Rattle.std.proofs.Common.{◌≡◌, ◌⊎◌, inl, inr, ℕ, zero, suc, ◌+◌, ◌≤◌, ◌<◌, Bool, true, false, ◌==◌, nat_lt, List, [], ◌∷◌, length, refl, ◌∙◌, sym, ap, subst, arith, ⊎_elim, if◌then◌else◌}
use Rattle.std.proofs.Math.ListN.{set}
use Rattle.std.proofs.lemmas.Bool.{cases_eq}
use Rattle.std.proofs.lemmas.Bool.Decides.{nat_tests}
use Rattle.zr_space.specs.Views.{Kept, kept_of, nothing_kept, IsSameKept, AreTurned}
use Rattle.zr_space.proofs.Views.{kept_other, kept_same}

pub none_beyond : (devs : List Kept) (d : ℕ) → length devs ≤ d → kept_of devs d ≡ nothing_kept
none_beyond [] zero le = refl
none_beyond [] (suc d) le = refl
none_beyond (x ∷ xs) zero le = absurd (omega (arith, le))
none_beyond (x ∷ xs) (suc d) le = none_beyond xs d (omega (arith, le))

pub same_then : (x y z : Kept) → IsSameKept x y → IsSameKept y z → IsSameKept x z
same_then x y z a b = b ∙ ap (λ (k : Kept). record k { uses = record k.uses { spare = z.uses.spare }; moves = record k.moves { spare = z.moves.spare } }) a

-- so far the devices below this one are turned
abbrev pub TurnedBelow : (Kept → Kept) → List Kept → List Kept → ℕ → Type 0
TurnedBelow turn first devs n = (d : ℕ) → IsSameKept (if nat_lt d n then turn (kept_of first d) else kept_of first d) (kept_of devs d)

module _ (turn : Kept → Kept) (nothing : turn nothing_kept ≡ nothing_kept) (respects : (x y : Kept) → IsSameKept x y → IsSameKept (turn x) (turn y)) where
  -- all are turned
  pub turned_all : (first devs : List Kept) → length devs ≡ length first → TurnedBelow turn first devs (length devs) → AreTurned turn first devs
  turned_all first devs e so = record {
    count = e;
    each = λ d.
        ⊎_elim
        (λ below. rw below at (so d))
        (λ past.
        let le : length devs ≤ d = grind (arith, nat_tests, past) in
        let none = none_beyond devs d le in
        let none2 = none_beyond first d (omega (arith, le, e)) in
        rw none rw none2 rw nothing refl)
        (either (nat_lt d (length devs)));
  }
    where
      either : (b : Bool) → (b ≡ true) ⊎ (b ≡ false)
      either true = inl refl
      either false = inr refl

  -- the next device is turned
  pub turned_next : (first devs : List Kept) (n : ℕ) (x : Kept) → n < length devs → IsSameKept (turn (kept_of devs n)) x → TurnedBelow turn first devs n → TurnedBelow turn first (set devs n x) (n + 1)
  turned_next first devs n x there is so d =
      ⊎_elim
      (λ same. let b : nat_lt d (n + 1) ≡ true = grind (arith, nat_tests, same) in rw b (subst (λ i. IsSameKept (turn (kept_of first i)) (kept_of (set devs n x) i)) (sym same) (subst (IsSameKept (turn (kept_of first n))) (sym (kept_same devs n x there)) here)))
      (λ other. let ne : (d == n) ≡ false = grind (arith, nat_tests, other) in let b : nat_lt d (n + 1) ≡ nat_lt d n = grind (arith, nat_tests, other) in rw b (subst (IsSameKept (if nat_lt d n then turn (kept_of first d) else kept_of first d)) (sym (kept_other devs n d x ne)) (so d)))
      (cases_eq d n)
    where
      b : nat_lt n n ≡ false
      b = grind (arith, nat_tests)

      was : IsSameKept (kept_of first n) (kept_of devs n)
      was = rw b at (so n)

      here : IsSameKept (turn (kept_of first n)) x
      here = same_then (turn (kept_of first n)) (turn (kept_of devs n)) x (respects (kept_of first n) (kept_of devs n) was) is
