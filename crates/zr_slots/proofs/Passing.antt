-- What was passed by on the way through a list.
use Rattle.std.proofs.Common.{◌≡◌, ℕ, ◌+◌, ◌<◌, ◌≤◌, List, length, get_or, inl, inr, sym, ◌∙◌, subst, arith, ap}
use Rattle.std.specs.Prelude.{Contains}
use Rattle.std.proofs.lemmas.Bool.{cases_lt}
use Rattle.std.proofs.lemmas.List.{get_or_read}

-- none of the first i items has it
abbrev pub NoneYet : {X : Type 0} → (X → Type 0) → List X → ℕ → Type 0
NoneYet {X} P xs i = (k : ℕ) (x : X) → k < i → get_or xs k x ≡ x → ¬ P x

-- one item more
pub none_more : {X : Type 0} (P : X → Type 0) (xs : List X) (i : ℕ) (y d : X) → i < length xs → y ≡ get_or xs i d → NoneYet P xs i → ¬ P y → NoneYet P xs (i + 1)
none_more P xs i y d lt here before none k x kl is h = elim (cases_lt k i) [
  | inl small ↦ before k x small is h
  | inr large ↦
      let same : k ≡ i = omega arith in
      let at_i : x ≡ get_or xs i x = sym is ∙ ap (λ j. get_or xs j x) same in
      let one : x ≡ y = get_or_read xs i x lt at_i d ∙ sym here in
      none (subst P one h)
]

-- none of the list
pub none_contains : {X : Type 0} (P : X → Type 0) (xs : List X) (i : ℕ) → length xs ≤ i → NoneYet P xs i → (x : X) → Contains xs x → ¬ P x
none_contains P xs i long none x (k, lt, is) = none k x (omega arith) is

-- a fact below i, and at i
pub below_next : (P : ℕ → Type 0) (i : ℕ) → ((k : ℕ) → k < i → P k) → P i → (k : ℕ) → k < i + 1 → P k
below_next P i before here k lt = elim (cases_lt k i) [
  | inl small ↦ before k small
  | inr large ↦ let same : i ≡ k = omega arith in subst P same here
]
