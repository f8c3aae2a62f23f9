use Rattle.std.proofs.Common.{◌≡◌, ◌≤◌, ℕ, zero, suc, inl, inr, [], ◌∷◌, refl, sym, ◌∙◌, ap, arith}
use Rattle.std.specs.Prelude.{Contains}
use Rattle.zr_base.specs.declared.refusal.Refusal.TheVariants.{TwoPools}
use Rattle.zr_label.specs.declared.root.Uber.{Uber}
use Rattle.zr_image.specs.Current.{IsShownAt, AreTwoPools, AreTwoRoots, IsPair, IsLowestPair}
use Rattle.zr_image.specs.Examples.{split, root_of, two_rows}
use Rattle.zr_image.proofs.Finding.{finds_one_pool, one_root, one_root_twice}
use Rattle.zr_image.proofs.laws.two_roots_of_one_group_are_refused.Goals as goal

abbrev one : Uber
one = root_of 5 1 8 two_rows

abbrev other : Uber
other = root_of 5 1 16 two_rows

-- the one item of a list
only : (x u : Uber) → Contains (x ∷ []) u → x ≡ u
only x u (zero, lt, is) = is
only x u (suc k, lt, is) = absurd (omega (arith, lt))

none : (u : Uber) → Contains [] u → ⊥
none u (k, lt, is) = absurd (omega (arith, lt))

guids : (slot : ℕ) (u : Uber) → IsShownAt split slot u → u.guid ≡ 7
guids zero u has = sym (ap (λ (x : Uber). x.guid) (only one u has))
guids (suc zero) u has = sym (ap (λ (x : Uber). x.guid) (only other u has))
guids (suc (suc slot)) u has = absurd (none u has)

groups : (slot : ℕ) (u : Uber) → IsShownAt split slot u → u.txg ≤ 5
groups zero u has = omega (arith, ap (λ (x : Uber). x.txg) (only one u has))
groups (suc zero) u has = omega (arith, ap (λ (x : Uber). x.txg) (only other u has))
groups (suc (suc slot)) u has = absurd (none u has)

one_pool : (p : ℕ × ℕ) → IsPair (AreTwoPools split) p → ⊥
one_pool p pair = pair.here.differ (guids p.0 pair.here.one pair.here.in_one ∙ sym (guids p.1 pair.here.other pair.here.in_other))

lengths : (u v : Uber) → u ≡ v → u.len ≡ v.len
lengths u v is = ap (λ (x : Uber). x.len) is

two_roots : AreTwoRoots split 0 1
two_roots = record {
  one = one;
  other = other;
  in_one = (0, omega arith, refl);
  in_other = (0, omega arith, refl);
  one_highest = record { shown = (0, (0, omega arith, refl)); highest = λ v shown. groups shown.0 v shown.1 };
  other_highest = record { shown = (1, (0, omega arith, refl)); highest = λ v shown. groups shown.0 v shown.1 };
  differ = λ is. absurd (omega (arith, lengths one other is));
}

lowest : IsLowestPair (AreTwoRoots split) (0, 1)
lowest = record {
  pair = record { order = omega arith; here = two_roots };
  lowest = λ q below pair. elim below [ inl lower ↦ absurd (omega (arith, lower)) | inr next ↦ absurd (omega (arith, next.1, pair.order)) ];
}

pub returns-clause-told : goal.returns-clause-told
returns-clause-told c = inl (tt, one_pool, inr (TwoPools 0 1, ((0, 1), lowest, refl), refl))

pub returns-clause-apart : goal.returns-clause-apart
returns-clause-apart c = λ seen a b u v w order in_a in_b u_highest v_highest differ found.
    one_root seen w (finds_one_pool seen w found) (a, b) (record { order = order; here = record { one = u; other = v; in_one = in_a; in_other = in_b; one_highest = u_highest; other_highest = v_highest; differ = differ } })

pub returns-clause-together : goal.returns-clause-together
returns-clause-together c = λ seen a u v w in_u in_v u_highest v_highest differ found.
    one_root_twice seen w (finds_one_pool seen w found) a (record { one = u; other = v; in_one = in_u; in_other = in_v; one_highest = u_highest; other_highest = v_highest; differ = differ })
