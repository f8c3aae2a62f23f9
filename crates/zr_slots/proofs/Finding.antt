-- The first place at which something holds.
use Rattle.std.proofs.Common.{◌≡◌, inl, inr, ℕ, zero, suc, ◌+◌, ◌<◌, ◌≤◌, List, [], ◌∷◌, length, get_or, Bool, true, false, not, cond, Some, None, refl, sym, ◌∙◌, ap, subst, arith}
use Rattle.std.specs.List.{find, position, position_or_len, range_with_len}
use Rattle.std.proofs.lemmas.Bool.{cases_lt, lt-ltb, le-ltb}

pub find_range_none : (p : ℕ → Bool) (a n : ℕ) → ((k : ℕ) → a ≤ k → k < a + n → p k ≡ false) → find p (range_with_len a n) ≡ None
find_range_none p a zero h = refl
find_range_none p a (suc n) h =
    ap (λ b. cond b (Some a) (find p (range_with_len (a + 1) n))) (h a (omega arith) (omega arith)) ∙ find_range_none p (a + 1) n (λ k lo hi. h k (omega arith) (omega arith))

pub find_range_some : (p : ℕ → Bool) (a n i : ℕ) → a ≤ i → i < a + n → ((k : ℕ) → a ≤ k → k < i → p k ≡ false) → p i ≡ true → find p (range_with_len a n) ≡ Some i
find_range_some p a zero i lo hi before here = absurd (omega arith)
find_range_some p a (suc n) i lo hi before here = elim (cases_lt a i) [
  | inl less ↦
      ap (λ b. cond b (Some a) (find p (range_with_len (a + 1) n))) (before a (omega arith) less) ∙ find_range_some p (a + 1) n i (omega arith) (omega arith) (λ k lo hi. before k (omega arith) hi) here
  | inr more ↦
      let is : i ≡ a = omega arith in
      ap (λ b. cond b (Some a) (find p (range_with_len (a + 1) n))) (subst (λ k. p k ≡ true) is here) ∙ ap Some (sym is)
]

pub find_none : {X : Type 0} (p : X → Bool) (xs : List X) (d : X) → ((k : ℕ) → k < length xs → p (get_or xs k d) ≡ false) → find p xs ≡ None
find_none p [] d h = refl
find_none p (x ∷ xs) d h = ap (λ b. cond b (Some x) (find p xs)) (h 0 (omega arith)) ∙ find_none p xs d (λ k lt. h (suc k) (omega arith))

pub find_some : {X : Type 0} (p : X → Bool) (xs : List X) (i : ℕ) (d : X) → i < length xs → ((k : ℕ) → k < i → p (get_or xs k d) ≡ false) → p (get_or xs i d) ≡ true → find p xs ≡ Some (get_or xs i d)
find_some p [] i d lt before here = absurd (omega arith)
find_some p (x ∷ xs) zero d lt before here = ap (λ b. cond b (Some x) (find p xs)) here
find_some p (x ∷ xs) (suc i) d lt before here =
    ap (λ b. cond b (Some x) (find p xs)) (before 0 (omega arith)) ∙ find_some p xs i d (omega arith) (λ k lt. before (suc k) (omega arith)) here

first_len : {X : Type 0} (p : X → Bool) (xs : List X) (i : ℕ) (d : X) → i < length xs → ((k : ℕ) → k < i → p (get_or xs k d) ≡ false) → p (get_or xs i d) ≡ true → position_or_len p xs ≡ i
first_len p [] i d lt before here = absurd (omega arith)
first_len p (x ∷ xs) zero d lt before here = ap (λ b. cond (not b) (1 + position_or_len p xs) 0) here
first_len p (x ∷ xs) (suc i) d lt before here =
    let rest = first_len p xs i d (omega arith) (λ k lt. before (suc k) (omega arith)) here in
    let first : position_or_len p (x ∷ xs) ≡ 1 + position_or_len p xs = ap (λ b. cond (not b) (1 + position_or_len p xs) 0) (before 0 (omega arith)) in
    omega (arith, rest, first)

none_len : {X : Type 0} (p : X → Bool) (xs : List X) (d : X) → ((k : ℕ) → k < length xs → p (get_or xs k d) ≡ false) → position_or_len p xs ≡ length xs
none_len p [] d h = refl
none_len p (x ∷ xs) d h =
    let rest = none_len p xs d (λ k lt. h (suc k) (omega arith)) in
    let first : position_or_len p (x ∷ xs) ≡ 1 + position_or_len p xs = ap (λ b. cond (not b) (1 + position_or_len p xs) 0) (h 0 (omega arith)) in
    omega (arith, rest, first)

pub position_some : {X : Type 0} (p : X → Bool) (xs : List X) (i : ℕ) (d : X) → i < length xs → ((k : ℕ) → k < i → p (get_or xs k d) ≡ false) → p (get_or xs i d) ≡ true → position p xs ≡ Some i
position_some p xs i d lt before here =
    let is = first_len p xs i d lt before here in
    ap (λ t. cond t (Some (position_or_len p xs)) None) (lt-ltb (position_or_len p xs) (length xs) (omega (arith, is, lt))) ∙ ap Some is

pub position_none : {X : Type 0} (p : X → Bool) (xs : List X) (d : X) → ((k : ℕ) → k < length xs → p (get_or xs k d) ≡ false) → position p xs ≡ None
position_none p xs d h =
    let is = none_len p xs d h in
    ap (λ t. cond t (Some (position_or_len p xs)) None) (le-ltb (position_or_len p xs) (length xs) (omega (arith, is)))
