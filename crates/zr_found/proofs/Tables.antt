-- Finite maps and sets of the first numbers.
use Rattle.std.proofs.Common.{◌≡◌, ◌≢◌, ◌⊎◌, inl, inr, ◌<◌, ◌≤◌, ℕ, zero, suc, Bool, true, false, Option, Some, None, refl, sym, ◌∙◌, ap, subst, arith}
use Rattle.std.specs.Prelude.{◌||◌}
use Rattle.std.specs.Ordering.{nat_cmp, eq_by_cmp}
use Rattle.std.specs.Cmp.{nat_cmp_total, unsigned_tied}
use Rattle.std.specs.FinMap as map
use Rattle.std.specs.FinMap.{FinMap}
use Rattle.std.specs.FinSet as set
use Rattle.std.specs.FinSet.{FinSet}
use Rattle.std.proofs.lemmas.Bool.{eq-eqb, ne_eqb}
use Rattle.zr_txg.proofs.Keyed.{by_key}
use Rattle.zr_held.proofs.Bytes.{given_here, given_there}

-- ---- maps

module _ {X : Type 0} where
  abbrev pub put : FinMap nat_cmp X → ℕ → Option X → FinMap nat_cmp X
  put m n None = m
  put m n (Some x) = map.insert m n x

  -- what the function has at the first numbers
  abbrev pub map_upto : (ℕ → Option X) → ℕ → FinMap nat_cmp X
  map_upto f zero = map.empty
  map_upto f (suc n) = put (map_upto f n) n (f n)

  put_here : (m : FinMap nat_cmp X) (n : ℕ) (o : Option X) → map.get m n ≡ None → map.get (put m n o) n ≡ o
  put_here m n None none = none
  put_here m n (Some x) none = given_here m n x

  put_there : (m : FinMap nat_cmp X) (n q : ℕ) (o : Option X) → q ≢ n → map.get (put m n o) q ≡ map.get m q
  put_there m n q None other = refl
  put_there m n q (Some x) other = given_there m n q x other

  pub upto_past : (f : ℕ → Option X) (n q : ℕ) → n ≤ q → map.get (map_upto f n) q ≡ None
  upto_past f zero q le = map.get-empty nat_cmp q
  upto_past f (suc n) q le = put_there (map_upto f n) n q (f n) (λ e. omega (arith, e, le)) ∙ upto_past f n q (omega (arith, le))

  pub upto_get : (f : ℕ → Option X) (n q : ℕ) → q < n → map.get (map_upto f n) q ≡ f q
  upto_get f zero q lt = absurd (omega (arith, lt))
  upto_get f (suc n) q lt = by_key q n
      (λ is. ap (λ (k : ℕ). map.get (put (map_upto f n) n (f n)) k) is ∙ put_here (map_upto f n) n (f n) (upto_past f n n (omega arith)) ∙ sym (ap f is))
      (λ other. put_there (map_upto f n) n q (f n) other ∙ upto_get f n q (omega (arith, lt, other)))

-- ---- sets

or_right : (x y : Bool) → y ≡ true → (x || y) ≡ true
or_right true y is = refl
or_right false y is = is

tied : (k : ℕ) → eq_by_cmp nat_cmp k k ≡ true
tied k = unsigned_tied k k ∙ eq-eqb k k refl

untied : (q k : ℕ) → q ≢ k → eq_by_cmp nat_cmp q k ≡ false
untied q k other = unsigned_tied q k ∙ ne_eqb q k other

abbrev pub add_where : {P : Type 0} → P ⊎ ¬ P → FinSet nat_cmp → ℕ → FinSet nat_cmp
add_where (inl q_is) s n = set.insert s n
add_where (inr q_not) s n = s

module _ (P : ℕ → Type 0) (is : (n : ℕ) → P n ⊎ ¬ P n) where
  -- the first numbers of which it is so
  abbrev pub set_upto : ℕ → FinSet nat_cmp
  set_upto zero = set.empty
  set_upto (suc n) = add_where (is n) (set_upto n) n

  has_more : {Q : Type 0} (o : Q ⊎ ¬ Q) (s : FinSet nat_cmp) (n q : ℕ) → set.contains s q ≡ true → set.contains (add_where o s n) q ≡ true
  has_more (inl q_is) s n q has = set.contains-insert nat_cmp_total s n q ∙ or_right (eq_by_cmp nat_cmp q n) (set.contains s q) has
  has_more (inr q_not) s n q has = has

  has_last : {Q : Type 0} (o : Q ⊎ ¬ Q) (s : FinSet nat_cmp) (n : ℕ) → Q → set.contains (add_where o s n) n ≡ true
  has_last (inl q_is) s n q = set.contains-insert nat_cmp_total s n n ∙ ap (λ (x : Bool). x || set.contains s n) (tied n)
  has_last (inr q_not) s n q = absurd (q_not q)

  had_or : {Q : Type 0} (o : Q ⊎ ¬ Q) (s : FinSet nat_cmp) (n q : ℕ) → q ≢ n → set.contains (add_where o s n) q ≡ true → set.contains s q ≡ true
  had_or (inl q_is) s n q other has = sym (set.contains-insert nat_cmp_total s n q ∙ ap (λ (x : Bool). x || set.contains s q) (untied q n other)) ∙ has
  had_or (inr q_not) s n q other has = has

  last_or : {Q : Type 0} (o : Q ⊎ ¬ Q) (s : FinSet nat_cmp) (n : ℕ) → set.contains s n ≢ true → set.contains (add_where o s n) n ≡ true → Q
  last_or (inl q_is) s n none has = q_is
  last_or (inr q_not) s n none has = absurd (none has)

  pub upto_low : (n q : ℕ) → set.contains (set_upto n) q ≡ true → q < n
  upto_low zero q has = absurd (let e = sym (set.contains-empty nat_cmp q) ∙ has in cc)
  upto_low (suc n) q has = by_key q n
      (λ here. omega (arith, here))
      (λ other. let lt = upto_low n q (had_or (is n) (set_upto n) n q other has) in omega (arith, lt))

  pub upto_is : (n q : ℕ) → set.contains (set_upto n) q ≡ true → P q
  upto_is zero q has = absurd (let e = sym (set.contains-empty nat_cmp q) ∙ has in cc)
  upto_is (suc n) q has = by_key q n
      (λ here. subst P (sym here) (last_or (is n) (set_upto n) n (λ in_it. let lt = upto_low n n in_it in omega (arith, lt)) (subst (λ (k : ℕ). set.contains (add_where (is n) (set_upto n) n) k ≡ true) here has)))
      (λ other. upto_is n q (had_or (is n) (set_upto n) n q other has))

  pub upto_has : (n q : ℕ) → q < n → P q → set.contains (set_upto n) q ≡ true
  upto_has zero q lt p = absurd (omega (arith, lt))
  upto_has (suc n) q lt p = by_key q n
      (λ here. subst (λ (k : ℕ). set.contains (add_where (is n) (set_upto n) n) k ≡ true) (sym here) (has_last (is n) (set_upto n) n (subst P here p)))
      (λ other. has_more (is n) (set_upto n) n q (upto_has n q (omega (arith, lt, other)) p))
