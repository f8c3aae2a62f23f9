-- Two roots of the highest group.
use Rattle.std.proofs.Common.{◌≡◌, ℕ, List, sym, subst, arith}
use Rattle.std.specs.Prelude.{Contains}
use Rattle.zr_label.specs.declared.root.Uber.{Uber}
use Rattle.zr_label.specs.declared.root.Seen.{Seen}
use Rattle.zr_image.specs.Current.{seen_at, IsShownAt, IsShown, IsCurrent, AreTwoRoots}
use Rattle.zr_slots.specs.Checks.{IsOther}

module _ (seen : List Seen) (a b txg : ℕ) (us vs : List Uber) (us_are : us ≡ (seen_at seen a).ubers) (vs_are : vs ≡ (seen_at seen b).ubers) (top : (w : Uber) × IsCurrent seen w × (w.txg ≡ txg)) where
  current : (u : Uber) → IsShown seen u → u.txg ≡ txg → IsCurrent seen u
  current u shown is = record { shown = shown; highest = λ v h. let le = top.1.highest v h in let e = top.2 in omega (arith, le, e, is) }

  its_txg : (u : Uber) → IsCurrent seen u → u.txg ≡ txg
  its_txg u h = let up = top.1.highest u h.shown in let down = h.highest top.0 top.1.shown in let e = top.2 in omega (arith, up, down, e)

  pub two_roots : (u v : Uber) → Contains us u → Contains vs v → u.txg ≡ txg → IsOther u v → AreTwoRoots seen a b
  two_roots u v in_us in_vs is other = record {
    one = u;
    other = v;
    in_one = at_a;
    in_other = at_b;
    one_highest = current u (a, at_a) is;
    other_highest = current v (b, at_b) (let g = other.group in omega (arith, g, is));
    differ = λ e. other.differs (sym e);
  }
    where
      at_a : IsShownAt seen a u
      at_a = subst (λ (l : List Uber). Contains l u) us_are in_us

      at_b : IsShownAt seen b v
      at_b = subst (λ (l : List Uber). Contains l v) vs_are in_vs

  pub not_two_roots : ((u v : Uber) → Contains us u → Contains vs v → u.txg ≡ txg → ¬ IsOther u v) → ¬ AreTwoRoots seen a b
  not_two_roots none h =
      let one_is = its_txg h.one h.one_highest in
      let other_is = its_txg h.other h.other_highest in
      none h.one h.other (subst (λ (l : List Uber). Contains l h.one) (sym us_are) h.in_one) (subst (λ (l : List Uber). Contains l h.other) (sym vs_are) h.in_other) one_is
      (record { group = omega (arith, one_is, other_is); differs = λ e. h.differ (sym e) })
