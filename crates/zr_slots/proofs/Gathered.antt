-- The slots of the devices so far.
use Rattle.std.proofs.Common.{◌≡◌, inl, inr, ℕ, zero, suc, ◌+◌, ◌<◌, List, [], ◌∷◌, ◌++◌, Option, Some, sym, ◌∙◌, subst, arith}
use Rattle.std.specs.Prelude.{Contains}
use Rattle.std.proofs.lemmas.Bool.{cases_lt}
use Rattle.std.proofs.lemmas.List.Elements.{Contains-push, Contains-append_left, Contains-append_cases}
use Rattle.zr_label.specs.declared.root.Uber.{Uber}
use Rattle.zr_slots.specs.Tables.{IsSlotAt, IsSlotInBoth}

pub record Gathers (last root : Uber) (slots : List (Option ℕ)) (i : ℕ) (found : List ℕ) : Type 0 where
  pub each : (slot : ℕ) → Contains found slot → IsSlotInBoth last root slots slot
  pub all : (k : ℕ) → k < i → (slot : ℕ) → IsSlotAt last root slots k slot → Contains found slot

only_one : (x s : ℕ) → Contains (s ∷ []) x → s ≡ x
only_one x s (zero, lt, is) = is
only_one x s (suc k, lt, is) = absurd (omega arith)

module _ (last root : Uber) (slots : List (Option ℕ)) where
  pub gathers_none : (found : List ℕ) → found ≡ [] → Gathers last root slots 0 found
  gathers_none found is = record {
    each = λ slot has. let h = subst (λ (l : List ℕ). Contains l slot) is has in let lt = h.1 in absurd (omega arith);
    all = λ k lt slot h. absurd (omega arith);
  }

  module _ (i : ℕ) (old : List ℕ) (before : Gathers last root slots i old) where
    pub gathers_pushed : (s : ℕ) (new : List ℕ) → i < 32 → new ≡ old ++ s ∷ [] → IsSlotAt last root slots i s → Gathers last root slots (i + 1) new
    gathers_pushed s new small is here = subst (Gathers last root slots (i + 1)) (sym is) (record { each = each; all = all })
      where
        each : (slot : ℕ) → Contains (old ++ s ∷ []) slot → IsSlotInBoth last root slots slot
        each slot has = elim (Contains-append_cases old (s ∷ []) slot has) [
          | inl first ↦ before.each slot first
          | inr push ↦ subst (IsSlotInBoth last root slots) (only_one slot s push) (record { index = i; known = small; at_index = here })
        ]

        all : (k : ℕ) → k < i + 1 → (slot : ℕ) → IsSlotAt last root slots k slot → Contains (old ++ s ∷ []) slot
        all k lt slot h = elim (cases_lt k i) [
          | inl less ↦ Contains-append_left old (s ∷ []) slot (before.all k less slot h)
          | inr more ↦
              let same : k ≡ i = omega arith in
              let at_i = subst (λ (j : ℕ). IsSlotAt last root slots j slot) same h in
              let both : Some s ≡ Some slot = sym here.here ∙ at_i.here in
              let is : s ≡ slot = cc in
              subst (Contains (old ++ s ∷ [])) is (Contains-push old s)
        ]

    pub gathers_passed : (new : List ℕ) → new ≡ old → ((slot : ℕ) → ¬ IsSlotAt last root slots i slot) → Gathers last root slots (i + 1) new
    gathers_passed new is none = subst (Gathers last root slots (i + 1)) (sym is) (record { each = before.each; all = all })
      where
        all : (k : ℕ) → k < i + 1 → (slot : ℕ) → IsSlotAt last root slots k slot → Contains old slot
        all k lt slot h = elim (cases_lt k i) [
          | inl less ↦ before.all k less slot h
          | inr more ↦ let same : k ≡ i = omega arith in absurd (none slot (subst (λ (j : ℕ). IsSlotAt last root slots j slot) same h))
        ]
