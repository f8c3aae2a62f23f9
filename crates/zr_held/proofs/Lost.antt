-- Lost blocks that a line does not need.
use Rattle.std.proofs.Common.{◌≡◌, ◌∙◌, ℕ, List, [], ◌∷◌, Bool, true, false, refl, sym, ap, nat_lt}
use Rattle.std.specs.Prelude.{◌||◌}
use Rattle.std.specs.List.{list_any}
use Rattle.std.specs.FinSet as set
use Rattle.std.specs.FinSet.{FinSet}
use Rattle.std.specs.Ordering.{nat_cmp, eq_by_cmp}
use Rattle.std.specs.Cmp.{nat_cmp_total, unsigned_tied}
use Rattle.std.specs.FinMap.{nat_cmp-IsAntisymmetric}
use Rattle.std.proofs.lemmas.Bool.{eq-eqb}
use Rattle.zr_model.specs.Objects.{Object, has_lost}

tied : (k : ℕ) → eq_by_cmp nat_cmp k k ≡ true
tied k = unsigned_tied k k ∙ eq-eqb k k refl

or_right : (x y : Bool) → y ≡ true → (x || y) ≡ true
or_right true y is = refl
or_right false y is = is

none_of : (p : ℕ → Bool) (ks : List ℕ) → ((k : ℕ) → list_any (eq_by_cmp nat_cmp k) ks ≡ true → p k ≡ false) → list_any p ks ≡ false
none_of p [] each = refl
none_of p (k ∷ ks) each =
    let here : p k ≡ false = each k (ap (λ (x : Bool). x || list_any (eq_by_cmp nat_cmp k) ks) (tied k)) in
    ap (λ (x : Bool). x || list_any p ks) here ∙ none_of p ks (λ j one. each j (or_right (eq_by_cmp nat_cmp j k) (list_any (eq_by_cmp nat_cmp j) ks) one))

-- no lost block passes the test
pub none_met : (p : ℕ → Bool) (lost : FinSet nat_cmp) → ((i : ℕ) → set.contains lost i ≡ true → p i ≡ false) → list_any p (set.items lost) ≡ false
none_met p lost each = none_of p (set.items lost) (λ k one. each k (set.contains-items lost k ∙ one))

-- no block is lost at all
pub none_lost : (o : Object) → ((i : ℕ) → set.contains o.lost i ≡ true → ⊥) → has_lost o ≡ false
none_lost o none =
    let empty : o.lost ≡ set.empty = set.same_set nat_cmp_total nat_cmp-IsAntisymmetric o.lost set.empty (λ i. no_member (set.contains o.lost i) (none i) ∙ sym (set.contains-empty nat_cmp i)) in
    ap (λ (x : FinSet nat_cmp). nat_lt 0 (set.len x)) empty ∙ ap (λ (k : ℕ). nat_lt 0 k) (set.len-empty nat_cmp)
  where
    no_member : (x : Bool) → (x ≡ true → ⊥) → x ≡ false
    no_member true not_one = absurd (not_one refl)
    no_member false not_one = refl
