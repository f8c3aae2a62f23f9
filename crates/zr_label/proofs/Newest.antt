-- The newest of some roots.
use Rattle.std.proofs.Common.{◌≡◌, ℕ, ◌≤◌, List, [], ◌∷◌, ◌++◌, Option, Some, None, ◌⊎◌, inl, inr, sym, subst, arith}
use Rattle.std.specs.Prelude.{IfSome, Contains}
use Rattle.std.specs.List.{AllByRecursion}
use Rattle.std.proofs.lemmas.List.Elements.{Contains-push, Contains-append_left}
use Rattle.zr_label.specs.declared.root.Uber.{Uber}

-- the newest of the roots so far
abbrev pub IsBestOf : List Uber → Option Uber → Type 0
IsBestOf us None = us ≡ []
IsBestOf us (Some u) = Contains us u × AllByRecursion (λ v. v.txg ≤ u.txg) us

all_up : (us : List Uber) (n m : ℕ) → n ≤ m → AllByRecursion (λ v. v.txg ≤ n) us → AllByRecursion (λ v. v.txg ≤ m) us
all_up [] n m le h = tt
all_up (u ∷ us) n m le h = (omega (arith, h.0), all_up us n m le h.1)

all_more : (us : List Uber) (m : ℕ) (x : Uber) → AllByRecursion (λ v. v.txg ≤ m) us → x.txg ≤ m → AllByRecursion (λ v. v.txg ≤ m) (us ++ x ∷ [])
all_more [] m x h le = (le, tt)
all_more (u ∷ us) m x h le = (h.0, all_more us m x h.1 le)

pub best_more : (us : List Uber) (found : Option Uber) (x r : Uber) → IsBestOf us found → (r ≡ x) ⊎ (found ≡ Some r) → x.txg ≤ r.txg → IfSome found (λ old. old.txg ≤ r.txg) → IsBestOf (us ++ x ∷ []) (Some r)
best_more us None x r h (inl e) new old = (subst (Contains (us ++ x ∷ [])) (sym e) (Contains-push us x), all_more us r.txg x (subst (AllByRecursion (λ v. v.txg ≤ r.txg)) (sym h) tt) new)
best_more us None x r h (inr e) new old = absurd cc
best_more us (Some u) x r h (inl e) new old = (subst (Contains (us ++ x ∷ [])) (sym e) (Contains-push us x), all_more us r.txg x (all_up us u.txg r.txg old h.1) new)
best_more us (Some u) x r h (inr e) new old =
    let same : u ≡ r = cc in
    (Contains-append_left us (x ∷ []) r (subst (Contains us) same h.0), all_more us r.txg x (all_up us u.txg r.txg old h.1) new)
