-- A set is read extent by extent.
use Rattle.std.proofs.Common.{◌≡◌, ℕ, zero, suc, ◌+◌, ◌≤◌, ◌<◌, ◌^◌, Bool, true, false, ◌||◌, List, [], ◌∷◌, ◌++◌, length, take, refl, ◌∙◌, sym, ap, subst, arith}
use Rattle.std.proofs.lemmas.Bool.Decides.{nat_tests}
use Rattle.zr_base.specs.declared.space.Extent.{Extent}
use Rattle.zr_base.specs.Extents.{in_extent, has_unit, unit_count, IsMaximal, IsMaximalFrom, EndsBy, HasNone, AddsUnits}
use Rattle.zr_base.proofs.ExtentSets.{same_extents}
use Rattle.zr_units.specs.Apart.{AreSetsApart}
use Rattle.zr_space.specs.Reads.{CanRead, Marks}

-- these extents are read, and those are left
pub record IsReading (front rest all before used set : List Extent) (low units : ℕ) : Type 0 where
  pub set_members : (u : ℕ) → has_unit set u ≡ has_unit front u
  pub set_maximal : IsMaximal set
  pub members : (u : ℕ) → has_unit used u ≡ (has_unit before u || has_unit front u)
  pub count : unit_count used ≡ unit_count before + unit_count front
  pub apart : (u : ℕ) → has_unit front u ≡ true → has_unit before u ≡ false
  pub below : (u : ℕ) → has_unit front u ≡ true → u < low
  pub low_small : low ≤ units + 1
  pub maximal : IsMaximalFrom low rest → IsMaximal all
  pub rest_maximal : IsMaximal all → IsMaximalFrom low rest
  pub within : EndsBy units rest → EndsBy units all
  pub rest_within : EndsBy units all → EndsBy units rest
  pub rest_apart : AreSetsApart all before → AreSetsApart rest before

pub has_snoc : (xs : List Extent) (e : Extent) (u : ℕ) → has_unit (xs ++ e ∷ []) u ≡ (has_unit xs u || in_extent e u)
has_snoc [] e u = grind (arith, nat_tests)
has_snoc (x ∷ xs) e u = let r = has_snoc xs e u in grind (arith, nat_tests, r)

count_snoc : (xs : List Extent) (e : Extent) → unit_count (xs ++ e ∷ []) ≡ unit_count xs + e.len
count_snoc [] e = omega arith
count_snoc (x ∷ xs) e = let r = count_snoc xs e in omega (arith, r)

pub starts_reading : (all before : List Extent) (units : ℕ) → IsReading [] all all before before [] 0 units
starts_reading all before units = record {
  set_members = λ u. refl;
  set_maximal = tt;
  members = λ u. grind (arith, nat_tests);
  count = omega arith;
  apart = λ u is. absurd (false_true is);
  below = λ u is. absurd (false_true is);
  low_small = omega arith;
  maximal = λ m. m;
  rest_maximal = λ m. m;
  within = λ w. w;
  rest_within = λ w. w;
  rest_apart = λ a. a;
}
  where
    false_true : false ≡ true → ⊥
    false_true e = cc

module _ (front rest all before used set : List Extent) (low units : ℕ) (e : Extent) (r : IsReading front (e ∷ rest) all before used set low units) where
  set_apart : low ≤ e.start → HasNone set e
  set_apart le u in_it = let b = r.below u in let s = r.set_members u in grind (arith, nat_tests, b, s, le, in_it)

  -- the next extent is read
  pub reads_more : (used2 set2 : List Extent) (low2 : ℕ) → low ≤ e.start → 0 < e.len → e.start + e.len ≤ units → units < 2 ^ 40 → HasNone used e → AddsUnits set set2 e → AddsUnits used used2 e → low2 ≡ e.start + e.len + 1
      → IsReading (front ++ e ∷ []) rest all before used2 set2 low2 units
  reads_more used2 set2 low2 le some fits small none s u low_is = record {
    set_members = λ v. let m = s.members v in let o = r.set_members v in let h = has_snoc front e v in grind (arith, nat_tests, m, o, h);
    set_maximal = s.maximal;
    members = λ v. let m = u.members v in let o = r.members v in let h = has_snoc front e v in grind (arith, nat_tests, m, o, h);
    count = let c = u.count in let o = r.count in let h = count_snoc front e in omega (arith, c, o, h);
    apart = λ v is. let h = has_snoc front e v in let o = r.apart v in let n = none v in let m = r.members v in grind (arith, nat_tests, h, o, n, m, is);
    below = λ v is. let h = has_snoc front e v in let b = r.below v in grind (arith, nat_tests, h, b, is, low_is, le);
    low_small = omega (arith, low_is, fits);
    maximal = λ m. r.maximal (le, some, omega (arith, fits, small), subst (λ n. IsMaximalFrom n rest) low_is m);
    rest_maximal = λ m. let w = (r.rest_maximal m).3 in subst (λ n. IsMaximalFrom n rest) (sym low_is) w;
    within = λ w. r.within (fits, w);
    rest_within = λ w. (r.rest_within w).1;
    rest_apart = λ a v is. r.rest_apart a v (grind (arith, nat_tests, is));
  }

  -- what can be read has the next extent behind the others ..
  pub next_fits : CanRead all before units → (low ≤ e.start) × (0 < e.len) × (e.start + e.len ≤ units)
  next_fits c = let m = r.rest_maximal c.maximal in (m.0, m.1, (r.rest_within c.within).0)

  -- .. and apart from what is used
  pub next_apart : CanRead all before units → HasNone used e
  next_apart c u in_it =
      let m = r.rest_maximal c.maximal in
      let le = m.0 in
      let a = r.rest_apart c.apart u in
      let b = r.below u in
      let o = r.members u in
      grind (arith, nat_tests, le, a, b, o, in_it)

-- all is read
pub all_read : (front rest all before used set : List Extent) (low units : ℕ) → IsReading front rest all before used set low units → rest ≡ [] → front ≡ all → (set ≡ all) × CanRead all before units × Marks all before used
all_read front rest all before used set low units r none is =
    let maximal = r.maximal (subst (λ (es : List Extent). IsMaximalFrom low es) (sym none) tt) in
    let within = r.within (subst (λ (es : List Extent). EndsBy units es) (sym none) tt) in
    let same : (es : List Extent) → front ≡ es → (u : ℕ) → has_unit front u ≡ has_unit es u = λ es q u. ap (λ (xs : List Extent). has_unit xs u) q in (
      same_extents 0 0 set all r.set_maximal maximal (λ u. r.set_members u ∙ same all is u),
      record { maximal = maximal; within = within; apart = subst (λ (es : List Extent). AreSetsApart es before) is r.apart },
      record { members = λ u. r.members u ∙ ap (λ (b : Bool). has_unit before u || b) (same all is u); count = r.count ∙ ap (λ (es : List Extent). unit_count before + unit_count es) is },
    )

pub take_end : (es : List Extent) (i : ℕ) → length es ≤ i → take i es ≡ es
take_end [] zero le = refl
take_end [] (suc i) le = refl
take_end (e ∷ es) zero le = absurd (omega (arith, le))
take_end (e ∷ es) (suc i) le = ap (λ (xs : List Extent). e ∷ xs) (take_end es i (omega (arith, le)))
