-- The newest of the roots that the slots show.
use Rattle.std.proofs.Common.{◌≡◌, inl, inr, ℕ, ◌+◌, ◌<◌, ◌≤◌, List, [], ◌∷◌, zero, suc, length, Option, Some, None, refl, sym, subst, arith}
use Rattle.std.specs.Prelude.{MatchOption, Contains, IsNone, IfSome}
use Rattle.std.specs.List.{AllByRecursion}
use Rattle.std.proofs.lemmas.Bool.{cases_lt}
use Rattle.zr_label.specs.declared.root.Uber.{Uber}
use Rattle.zr_label.specs.declared.root.Seen.{Seen}
use Rattle.zr_image.specs.Current.{seen_at, IsShownAt, IsShown, IsCurrent}
use Rattle.zr_slots.specs.Checks.{IsHigher}
use Rattle.zr_slots.proofs.Shown.{shown_in}

-- the newest of the first n slots
abbrev pub IsHighestYet : List Seen → ℕ → Option Uber → Type 0
IsHighestYet seen n found =
    MatchOption found ((k : ℕ) (v : Uber) → k < n → ¬ IsShownAt seen k v) (λ u. IsShown seen u × ((k : ℕ) (v : Uber) → k < n → IsShownAt seen k v → v.txg ≤ u.txg))

at_all : (P : Uber → Type 0) (us : List Uber) → AllByRecursion P us → (v : Uber) → Contains us v → P v
at_all P [] h v has = let lt = has.1 in absurd (omega arith)
at_all P (u ∷ us) h v (zero, lt, is) = subst P is h.0
at_all P (u ∷ us) h v (suc k, lt, is) = at_all P us h.1 v (k, omega arith, is)

module _ (seen : List Seen) (n : ℕ) (us : List Uber) (us_is : us ≡ (seen_at seen n).ubers) where
  at_n : (v : Uber) → IsShownAt seen n v → Contains us v
  at_n v h = subst (λ (vs : List Uber). Contains vs v) (sym us_is) h

  none_more : us ≡ [] → ((k : ℕ) (v : Uber) → k < n → ¬ IsShownAt seen k v) → (k : ℕ) (v : Uber) → k < n + 1 → ¬ IsShownAt seen k v
  none_more none before k v lt h = elim (cases_lt k n) [
    | inl small ↦ before k v small h
    | inr large ↦
        let is : k ≡ n = omega arith in
        let has = subst (λ (vs : List Uber). Contains vs v) none (at_n v (subst (λ (j : ℕ). IsShownAt seen j v) is h)) in
        let in_list = has.1 in
        omega arith
  ]

  up_more : (m top : ℕ) → m ≤ top → ((k : ℕ) (v : Uber) → k < n → IsShownAt seen k v → v.txg ≤ m) → ((v : Uber) → Contains us v → v.txg ≤ top) → (k : ℕ) (v : Uber) → k < n + 1 → IsShownAt seen k v → v.txg ≤ top
  up_more m top le before here k v lt h = elim (cases_lt k n) [
    | inl small ↦ let below = before k v small h in omega (arith, below, le)
    | inr large ↦ let is : k ≡ n = omega arith in here v (at_n v (subst (λ (j : ℕ). IsShownAt seen j v) is h))
  ]

  empty_all : us ≡ [] → (top : ℕ) (v : Uber) → Contains us v → v.txg ≤ top
  empty_all none top v has = let h = subst (λ (vs : List Uber). Contains vs v) none has in let in_list = h.1 in absurd (omega arith)

  -- one slot more
  pub highest_more : (old new found : Option Uber) → (IsNone new → us ≡ []) → IfSome new (Contains us) → IfSome new (λ u. AllByRecursion (λ v. v.txg ≤ u.txg) us) → IsHigher old new found → IsHighestYet seen n old → IsHighestYet seen (n + 1) found
  highest_more None None found empty one all is before = subst (IsHighestYet seen (n + 1)) (sym is) (none_more (empty refl) before)
  highest_more None (Some b) found empty one all is before =
      subst (IsHighestYet seen (n + 1)) (sym is) ((n, subst (λ (vs : List Uber). Contains vs b) us_is one), up_more 0 b.txg (omega arith) (λ k v lt h. absurd (before k v lt h)) (at_all (λ v. v.txg ≤ b.txg) us all))
  highest_more (Some a) None found empty one all is before =
      subst (IsHighestYet seen (n + 1)) (sym is) (before.0, up_more a.txg a.txg (omega arith) before.1 (empty_all (empty refl) a.txg))
  highest_more (Some a) (Some b) found empty one all (inl h) before =
      let less = h.0 in
      subst (IsHighestYet seen (n + 1)) (sym h.1) ((n, subst (λ (vs : List Uber). Contains vs b) us_is one), up_more a.txg b.txg (omega arith) before.1 (at_all (λ v. v.txg ≤ b.txg) us all))
  highest_more (Some a) (Some b) found empty one all (inr h) before =
      let less = h.0 in
      subst (IsHighestYet seen (n + 1)) (sym h.1) (before.0, up_more a.txg a.txg (omega arith) before.1 (λ v has. let le = at_all (λ v. v.txg ≤ b.txg) us all v has in omega (arith, le, less)))

pub highest_found : (seen : List Seen) (n : ℕ) (found : Option Uber) (u : Uber) → length seen ≤ n → found ≡ Some u → IsHighestYet seen n found → IsCurrent seen u
highest_found seen n None u long is h = absurd cc
highest_found seen n (Some w) u long is h =
    let same : w ≡ u = cc in
    subst (IsCurrent seen) same (record { shown = h.0; highest = λ v shown. let in_list = shown_in seen shown.0 v shown.1 in h.1 shown.0 v (omega (arith, in_list, long)) shown.1 })

pub highest_none : (seen : List Seen) (n : ℕ) (found : Option Uber) → length seen ≤ n → found ≡ None → IsHighestYet seen n found → (u : Uber) → ¬ IsCurrent seen u
highest_none seen n (Some w) long is h u current = absurd cc
highest_none seen n None long is h u current =
    let shown = current.shown in
    let in_list = shown_in seen shown.0 u shown.1 in
    h shown.0 u (omega (arith, in_list, long)) shown.1
