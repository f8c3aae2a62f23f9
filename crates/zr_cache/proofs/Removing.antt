-- Taking out the entries of a list one by one.
use Rattle.std.proofs.Common.{◌≡◌, ◌<◌, Bool, true, false, not, filter, find, length, List, [], ◌∷◌, Some, None, option_map, refl, sym, ap, subst, arith}
use Rattle.std.specs.List.{IsDistinct, AllByRecursion}
use Rattle.std.specs.Map.{keys_of, remove_entry}
use Rattle.std.proofs.lemmas.Map.Keys.{IsDistinct-head, IsDistinct-tail}

module _ {K X : Type 0} (test : K × X → Bool) where
  -- what is true of all keys is true of the one that is found
  all-found : (P : K → Type 0) (es : List (K × X)) (e : K × X) → AllByRecursion P (keys_of es) → find test es ≡ Some e → P e.0
  all-found P [] e all h = cc
  all-found P (f ∷ es) e all h = (elim (test f) as (λ b. test f ≡ b → P e.0) [
    | true ↦ λ t. let h' = rw t at h in let same : f ≡ e = cc in subst (λ (g : K × X). P g.0) same all.0
    | false ↦ λ t. all-found P es e all.1 (rw t at h)
  ]) refl

  pub filter-none : (es : List (K × X)) → find test es ≡ None → filter (λ f. not (test f)) es ≡ es
  filter-none [] h = refl
  filter-none (f ∷ es) h = (elim (test f) as (λ b. test f ≡ b → filter (λ g. not (test g)) (f ∷ es) ≡ f ∷ es) [
    | true ↦ λ t. let h' = rw t at h in cc
    | false ↦ λ t. rw t (ap (λ l. f ∷ l) (filter-none es (rw t at h)))
  ]) refl

module _ {K X : Type 0} (eq : K → K → Bool) (own : (k : K) → eq k k ≡ true) (same : (k j : K) → eq k j ≡ true → k ≡ j) (test : K × X → Bool) where
  pub length-remove_entry : (es : List (K × X)) (e : K × X) → find test es ≡ Some e → length (remove_entry (eq e.0) es) < length es
  length-remove_entry [] e h = cc
  length-remove_entry (f ∷ es) e h = (elim (eq e.0 f.0) as (λ b. eq e.0 f.0 ≡ b → length (remove_entry (eq e.0) (f ∷ es)) < length (f ∷ es)) [
    | true ↦ λ t. rw t (omega arith)
    | false ↦ λ t. rw t (omega (arith, length-remove_entry es e (later t)))
  ]) refl
    where
      later : eq e.0 f.0 ≡ false → find test es ≡ Some e
      later t = (elim (test f) as (λ b. test f ≡ b → find test es ≡ Some e) [
        | true ↦ λ u. let h' = rw u at h in let is : f ≡ e = cc in let o = own e.0 in let t' : eq e.0 e.0 ≡ false = subst (λ (g : K × X). eq e.0 g.0 ≡ false) is t in cc
        | false ↦ λ u. rw u at h
      ]) refl

  -- an entry that is found is not kept, so what is kept is the same without it
  pub filter-remove_entry : (es : List (K × X)) (e : K × X) → IsDistinct eq (keys_of es) → find test es ≡ Some e → filter (λ f. not (test f)) (remove_entry (eq e.0) es) ≡ filter (λ f. not (test f)) es
  filter-remove_entry [] e d h = refl
  filter-remove_entry (f ∷ es) e d h = (elim (test f) as (λ b. test f ≡ b → filter (λ g. not (test g)) (remove_entry (eq e.0) (f ∷ es)) ≡ filter (λ g. not (test g)) (f ∷ es)) [
    | true ↦ λ u. let h' = rw u at h in let is : f ≡ e = cc in
        let first : eq e.0 f.0 ≡ true = subst (λ (g : K × X). eq g.0 f.0 ≡ true) is (own f.0) in rw (first, u)
    | false ↦ λ u. let further : find test es ≡ Some e = rw u at h in
        let other : eq e.0 f.0 ≡ false = apart further in
        rw (other, u) (ap (λ l. f ∷ l) (filter-remove_entry es e (IsDistinct-tail eq f.0 (keys_of es) d) further))
  ]) refl
    where
      apart : find test es ≡ Some e → eq e.0 f.0 ≡ false
      apart further = (elim (eq e.0 f.0) as (λ b. eq e.0 f.0 ≡ b → eq e.0 f.0 ≡ false) [
        | true ↦ λ t. let is = same e.0 f.0 t in
            let differ = all-found test (λ k. eq f.0 k ≡ false) es e (IsDistinct-head eq f.0 (keys_of es) d) further in
            let equal : eq f.0 e.0 ≡ true = subst (λ k. eq f.0 k ≡ true) (sym is) (own f.0) in cc
        | false ↦ λ t. t
      ]) refl

  module _ (es : List (K × X)) (k : K) (found : option_map (λ (e : K × X). e.0) (find test es) ≡ Some k) where
    -- the entry of the key that is found
    entry_of : (e : K × X) × (find test es ≡ Some e) × (e.0 ≡ k)
    entry_of = (elim (find test es) as (λ o. find test es ≡ o → (e : K × X) × (find test es ≡ Some e) × (e.0 ≡ k)) [
      | None ↦ λ o. let h = rw o at found in cc
      | Some e ↦ λ o. let h = rw o at found in (e, o, cc)
    ]) refl

    pub fewer : length (remove_entry (eq k) es) < length es
    fewer = subst (λ j. length (remove_entry (eq j) es) < length es) entry_of.2 (length-remove_entry es entry_of.0 entry_of.1)

    pub keeps_the_others : IsDistinct eq (keys_of es) → filter (λ f. not (test f)) (remove_entry (eq k) es) ≡ filter (λ f. not (test f)) es
    keeps_the_others distinct = subst (λ j. filter (λ f. not (test f)) (remove_entry (eq j) es) ≡ filter (λ f. not (test f)) es) entry_of.2 (filter-remove_entry es entry_of.0 distinct entry_of.1)

module _ {K X : Type 0} (test : K × X → Bool) where
  pub nothing-found : (es : List (K × X)) → option_map (λ (e : K × X). e.0) (find test es) ≡ None → find test es ≡ None
  nothing-found es none = (elim (find test es) as (λ o. find test es ≡ o → find test es ≡ None) [
    | None ↦ λ o. o
    | Some e ↦ λ o. let h = rw o at none in cc
  ]) refl
