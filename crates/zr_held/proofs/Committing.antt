-- A commit: the open group's changes of each object are in its tree, and the group begins anew.
use Rattle.std.proofs.Common.{◌≡◌, ◌∙◌, ◌<◌, ◌≤◌, ◌+◌, ℕ, zero, suc, List, [], ◌∷◌, ◌++◌, Option, Some, None, refl, sym, ap, arith, nat_lt, lt-ltb, le-ltb, ⊎_elim}
use Rattle.std.specs.Prelude.{if◌then◌else◌}
use Rattle.std.specs.List.{sum_by, flat_map, AllByRecursion}
use Rattle.std.proofs.lemmas.Bool.{eq-eqb, ne_eqb, cases_lt}
use Rattle.std.proofs.lemmas.List.Sums.{sum_by-append, sum_by-cons}
use Rattle.zr_bptr.specs.declared.Bptr.{Bptr}
use Rattle.zr_txg.specs.Tables.{IsRisingFrom, value_at}
use Rattle.zr_txg.proofs.Keyed.{by_key, value_at-low}
use Rattle.zr_held.specs.Held.{blocks_below}

-- what the entries below a key weigh
abbrev pub part : {V : Type 0} → (ℕ × V → ℕ) → List (ℕ × V) → ℕ → ℕ
part h [] m = 0
part h (e ∷ es) m = (if nat_lt e.0 m then h e else 0) + part h es m

module _ {V : Type 0} (h : ℕ × V → ℕ) where
  part_low : (low m : ℕ) (es : List (ℕ × V)) → IsRisingFrom low es → m ≤ low → part h es m ≡ 0
  part_low low m [] up le = refl
  part_low low m (e ∷ es) up le =
      let rest = part_low (suc e.0) m es up.1 (omega (arith, le, up.0)) in
      rw (le-ltb e.0 m (omega (arith, le, up.0))) (omega (arith, rest))

  part_none : (low k : ℕ) (es : List (ℕ × V)) → IsRisingFrom low es → value_at es k ≡ None → part h es (suc k) ≡ part h es k
  part_none low k [] up none = refl
  part_none low k (e ∷ es) up none = by_key e.0 k
      (λ same. absurd (let here : value_at (e ∷ es) k ≡ Some e.1 = rw (eq-eqb e.0 k same) refl in let x = sym here ∙ none in cc))
      (λ other.
      let tail : value_at es k ≡ None = sym (rw (ne_eqb e.0 k other) refl) ∙ none in
      let rest = part_none (suc e.0) k es up.1 tail in
      ⊎_elim
      (λ lt. rw (lt-ltb e.0 (suc k) (omega (arith, lt)), lt-ltb e.0 k lt) (omega (arith, rest)))
      (λ le. rw (le-ltb e.0 (suc k) (omega (arith, le, other)), le-ltb e.0 k le) (omega (arith, rest)))
      (cases_lt e.0 k))

  part_some : (low k : ℕ) (v : V) (es : List (ℕ × V)) → IsRisingFrom low es → value_at es k ≡ Some v → part h es (suc k) ≡ part h es k + h (k, v)
  part_some low k v [] up is = absurd (cc)
  part_some low k v (e ∷ es) up is = by_key e.0 k
      (λ same.
      let here : value_at (e ∷ es) k ≡ Some e.1 = rw (eq-eqb e.0 k same) refl in
      let value : e.1 ≡ v = let x = sym here ∙ is in cc in
      let entry : e ≡ (k, v) = (λ i. (same i, value i)) in
      let weight = ap h entry in
      let after = part_low (suc e.0) (suc k) es up.1 (omega (arith, same)) in
      let before = part_low (suc e.0) k es up.1 (omega (arith, same)) in
      rw (lt-ltb e.0 (suc k) (omega (arith, same)), le-ltb e.0 k (omega (arith, same))) (omega (arith, weight, after, before)))
      (λ other.
      let tail : value_at es k ≡ Some v = sym (rw (ne_eqb e.0 k other) refl) ∙ is in
      let rest = part_some (suc e.0) k v es up.1 tail in
      ⊎_elim
      (λ lt. rw (lt-ltb e.0 (suc k) (omega (arith, lt)), lt-ltb e.0 k lt) (omega (arith, rest)))
      (λ le.
      let none = value_at-low (suc e.0) k es up.1 (omega (arith, le, other)) in
      absurd (let x = sym tail ∙ none in cc))
      (cases_lt e.0 k))

  pub part_all : (m : ℕ) (es : List (ℕ × V)) → AllByRecursion (λ e. e.0 < m) es → part h es m ≡ sum_by h es
  part_all m [] all = refl
  part_all m (e ∷ es) all = let rest = part_all m es all.1 in rw (lt-ltb e.0 m all.0) (omega (arith, rest, sum_by-cons h e es))

-- the blocks of some objects become others, and those of all the rest stay
module _ {V : Type 0} (weight : Bptr → ℕ) (old new : ℕ → List Bptr) (f g : ℕ × V → ℕ) (es : List (ℕ × V)) (up : IsRisingFrom 0 es)
    (there : (k : ℕ) (v : V) → value_at es k ≡ Some v → sum_by weight (new k) + f (k, v) ≡ sum_by weight (old k) + g (k, v))
    (rest : (k : ℕ) → value_at es k ≡ None → sum_by weight (new k) ≡ sum_by weight (old k)) where
  one_step : (k : ℕ) (x : Option V) → value_at es k ≡ x
      → sum_by weight (blocks_below new k) + part f es k ≡ sum_by weight (blocks_below old k) + part g es k
      → sum_by weight (blocks_below new k ++ new k) + part f es (suc k) ≡ sum_by weight (blocks_below old k ++ old k) + part g es (suc k)
  one_step k None is before =
      let a = part_none f 0 k es up is in
      let b = part_none g 0 k es up is in
      let r = rest k is in
      omega (arith, before, a, b, r, sum_by-append weight (blocks_below new k) (new k), sum_by-append weight (blocks_below old k) (old k))
  one_step k (Some v) is before =
      let a = part_some f 0 k v es up is in
      let b = part_some g 0 k v es up is in
      let t = there k v is in
      omega (arith, before, a, b, t, sum_by-append weight (blocks_below new k) (new k), sum_by-append weight (blocks_below old k) (old k))

  pub parts_swap : (m : ℕ) → sum_by weight (blocks_below new m) + part f es m ≡ sum_by weight (blocks_below old m) + part g es m
  parts_swap zero =
      let a = part_low f 0 0 es up (omega arith) in
      let b = part_low g 0 0 es up (omega arith) in
      omega (arith, a, b)
  parts_swap (suc k) = one_step k (value_at es k) refl (parts_swap k)

-- what the entries weigh is within what all objects weigh
module _ {V : Type 0} (weight : Bptr → ℕ) (bs : ℕ → List Bptr) (f : ℕ × V → ℕ) (es : List (ℕ × V)) (up : IsRisingFrom 0 es)
    (less : (k : ℕ) (v : V) → value_at es k ≡ Some v → f (k, v) ≤ sum_by weight (bs k)) where
  step_within : (k : ℕ) (x : Option V) → value_at es k ≡ x → part f es k ≤ sum_by weight (blocks_below bs k) → part f es (suc k) ≤ sum_by weight (blocks_below bs k ++ bs k)
  step_within k None is before = let a = part_none f 0 k es up is in omega (arith, before, a, sum_by-append weight (blocks_below bs k) (bs k))
  step_within k (Some v) is before = let a = part_some f 0 k v es up is in let l = less k v is in omega (arith, before, a, l, sum_by-append weight (blocks_below bs k) (bs k))

  pub part_within : (m : ℕ) → part f es m ≤ sum_by weight (blocks_below bs m)
  part_within zero = let a = part_low f 0 0 es up (omega arith) in omega (arith, a)
  part_within (suc k) = step_within k (value_at es k) refl (part_within k)

pub sum_flat : {X : Type 0} (weight : Bptr → ℕ) (f : X → List Bptr) (xs : List X) → sum_by weight (flat_map f xs) ≡ sum_by (λ x. sum_by weight (f x)) xs
sum_flat weight f [] = refl
sum_flat weight f (x ∷ xs) = let rest = sum_flat weight f xs in omega (arith, rest, sum_by-append weight (f x) (flat_map f xs), sum_by-cons (λ x. sum_by weight (f x)) x xs)
