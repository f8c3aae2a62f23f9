-- Metadata that is given back: what it takes from the metadata of the roots, and what waits for the group's end.
use Rattle.std.proofs.Common.{◌≡◌, ℕ, zero, suc, ◌+◌, ◌<◌, ◌≤◌, Bool, true, false, ◌||◌, nat_lt, List, [], ◌∷◌, length, refl, ◌∙◌, sym, ap, arith}
use Rattle.std.specs.List.{sum_by, range_with_len}
use Rattle.std.proofs.lemmas.Bool.Decides.{nat_tests}
use Rattle.std.proofs.lemmas.List.Sums.{sum_by-cons}
use Rattle.zr_base.specs.declared.space.Extent.{Extent}
use Rattle.zr_base.specs.declared.space.Dva.{Dva}
use Rattle.zr_base.specs.Extents.{has_unit}
use Rattle.zr_rules.specs.Places.{one_if, count_below, in_address, address_hits, units_of_dev}
use Rattle.zr_rules.specs.Roles.{Role, freed, kept_of}
use Rattle.zr_rules.specs.Roles.Role.{DeferredMeta}
use Rattle.zr_rules.specs.Space.{Space, opened_of, role_at, IsLawful}
use Rattle.zr_rules.specs.Columns.{role_count, units_on}
use Rattle.zr_rules.specs.Frees.{DropsMeta, Frees, in_any}
use Rattle.zr_reckon.specs.Coming.{KeepsRecords}
use Rattle.zr_reckon.specs.Uses.{is_dropped_role, dropped_units}
use Rattle.zr_reckon.proofs.Counting.{count_more, count_none, count_as, sum_as, sum_both, sum_grows, sum_less, sum_zero}
use Rattle.zr_reckon.proofs.FreePieces.{by_use}
use Rattle.zr_reckon.proofs.GroupRoom.{dropped_is}
use Rattle.zr_reckon.proofs.RoomUnits.{units_counted, lens_counted}

-- numbers of which one at most is there, on either side
count_five : (n : ℕ) (a b c x y : ℕ → ℕ) → ((u : ℕ) → a u + b u + c u ≡ x u + y u) → ((u : ℕ) → x u + y u ≤ 1)
    → count_below n (λ u. nat_lt 0 (a u)) + count_below n (λ u. nat_lt 0 (b u)) + count_below n (λ u. nat_lt 0 (c u)) ≡ count_below n (λ u. nat_lt 0 (x u)) + count_below n (λ u. nat_lt 0 (y u))
count_five zero a b c x y same one = refl
count_five (suc n) a b c x y same one = let r = count_five n a b c x y same one in let s = same n in let o = one n in grind (arith, nat_tests, r, s, o)

-- a test that holds only where one of two others does
count_either : (n : ℕ) (f g h : ℕ → Bool) → ((u : ℕ) → f u ≡ true → (g u || h u) ≡ true) → count_below n f ≤ count_below n g + count_below n h
count_either zero f g h either = omega arith
count_either (suc n) f g h either = omega (arith, count_either n f g h either, one (f n) (g n) (h n) (either n))
  where
    one : (x y z : Bool) → (x ≡ true → (y || z) ≡ true) → one_if x ≤ one_if y + one_if z
    one false y z e = omega arith
    one true true z e = omega arith
    one true false true e = omega arith
    one true false false e = let k = e refl in absurd (cc)

any_hits : (list : List Dva) (d u : ℕ) → in_any list d u ≡ true → nat_lt 0 (address_hits list d u) ≡ true
any_hits [] d u is = absurd (cc)
any_hits (a ∷ list) d u is = by_first (in_address a d u) refl (any_hits list d u)
  where
    by_first : (b : Bool) → in_address a d u ≡ b → (in_any list d u ≡ true → nat_lt 0 (address_hits list d u) ≡ true) → nat_lt 0 (address_hits (a ∷ list) d u) ≡ true
    by_first true here rest = let m = sum_by-cons (λ (x : Dva). one_if (in_address x d u)) a list in grind (arith, nat_tests, m, here)
    by_first false here rest =
        let m = sum_by-cons (λ (x : Dva). one_if (in_address x d u)) a list in
        let r = rest (rw here at is) in
        grind (arith, nat_tests, m, here, r)

module _ (old new : Space) (list : List Dva) (c : DropsMeta old new list) (k : KeepsRecords old new) where
  -- each unit is in one of the old lists at most, and in one of a known device
  old_hits : (d u : ℕ) → address_hits old.meta d u + address_hits old.saved_meta d u ≤ one_if (nat_lt u (units_of_dev old.parts.devs d))
  old_hits d u = let o = k.old_lawful.once d u in grind (arith, nat_tests, o)

  known : (d u : ℕ) → 0 < address_hits old.meta d u + address_hits old.saved_meta d u → d < length old.parts.devs
  known d u some = let o = k.old_lawful.once d u in grind (arith, nat_tests, o, some)

  on_device : (d : ℕ) → units_on new.meta d + units_on new.saved_meta d + units_on list d ≡ units_on old.meta d + units_on old.saved_meta d
  on_device d =
      let n = units_of_dev old.parts.devs d in
      let a = units_counted new.meta d n (λ u. let m = c.meta d u in let o = old_hits d u in omega (arith, m, o)) in
      let b = units_counted new.saved_meta d n (λ u. let m = c.meta d u in let o = old_hits d u in omega (arith, m, o)) in
      let g = units_counted list d n (λ u. let m = c.meta d u in let o = old_hits d u in omega (arith, m, o)) in
      let x = units_counted old.meta d n (λ u. let o = old_hits d u in omega (arith, o)) in
      let y = units_counted old.saved_meta d n (λ u. let o = old_hits d u in omega (arith, o)) in
      let f = count_five n (address_hits new.meta d) (address_hits new.saved_meta d) (address_hits list d) (address_hits old.meta d) (address_hits old.saved_meta d) (c.meta d)
      (λ u. let o = old_hits d u in grind (arith, nat_tests, o)) in
      omega (arith, a, b, g, x, y, f)

  -- what is given back goes from the metadata of the roots
  pub drop_held : sum_by (λ (a : Dva). a.len) new.meta + sum_by (λ (a : Dva). a.len) new.saved_meta + sum_by (λ (a : Dva). a.len) list ≡ sum_by (λ (a : Dva). a.len) old.meta + sum_by (λ (a : Dva). a.len) old.saved_meta
  drop_held =
      let n = length old.parts.devs in
      let range = range_with_len 0 n in
      let a = lens_counted new.meta n (λ d u some. known d u (let m = c.meta d u in omega (arith, m, some))) in
      let b = lens_counted new.saved_meta n (λ d u some. known d u (let m = c.meta d u in omega (arith, m, some))) in
      let g = lens_counted list n (λ d u some. known d u (let m = c.meta d u in omega (arith, m, some))) in
      let x = lens_counted old.meta n (λ d u some. known d u (omega (arith, some))) in
      let y = lens_counted old.saved_meta n (λ d u some. known d u (omega (arith, some))) in
      let p = sum_both (λ (d : ℕ). units_on new.meta d + units_on new.saved_meta d) (units_on new.meta) (units_on new.saved_meta) range (λ d. refl) in
      let q = sum_both (λ (d : ℕ). units_on old.meta d + units_on old.saved_meta d) (λ (d : ℕ). units_on new.meta d + units_on new.saved_meta d) (units_on list) range (λ d. let o = on_device d in omega (arith, o)) in
      let r = sum_both (λ (d : ℕ). units_on old.meta d + units_on old.saved_meta d) (units_on old.meta) (units_on old.saved_meta) range (λ d. refl) in
      omega (arith, a, b, g, x, y, p, q, r)

  on_device_dropped : (d : ℕ) → role_count new is_dropped_role d ≤ role_count old is_dropped_role d + units_on list d
  on_device_dropped d =
      let n = units_of_dev old.parts.devs d in
      let g = units_counted list d n (λ u. let m = c.meta d u in let o = old_hits d u in omega (arith, m, o)) in
      let s = ap (λ (i : ℕ). count_below i (λ u. is_dropped_role (role_at new d u))) (ap (λ r. r.units) (k.each d).row) in
      let e = count_either n (λ u. is_dropped_role (role_at new d u)) (λ u. is_dropped_role (role_at old d u)) (λ u. nat_lt 0 (address_hits list d u)) either in
      omega (arith, g, s, e)
    where
      either : (u : ℕ) → is_dropped_role (role_at new d u) ≡ true → (is_dropped_role (role_at old d u) || nat_lt 0 (address_hits list d u)) ≡ true
      either u is = by_test (in_any list d u) refl
        where
          by_test : (b : Bool) → in_any list d u ≡ b → (is_dropped_role (role_at old d u) || nat_lt 0 (address_hits list d u)) ≡ true
          by_test true here = let h = any_hits list d u here in grind (arith, h)
          by_test false here = let r = ap is_dropped_role (c.roles d u) in let n = rw here at r in grind (arith, n, is)

  -- and waits for the group's end
  pub drop_dropped : dropped_units new ≤ dropped_units old + sum_by (λ (a : Dva). a.len) list
  drop_dropped =
      let n = length old.parts.devs in
      let s = ap (λ (i : ℕ). sum_by (role_count new is_dropped_role) (range_with_len 0 i)) k.devices in
      let g = sum_grows (role_count new is_dropped_role) (role_count old is_dropped_role) (units_on list) (range_with_len 0 n) on_device_dropped in
      let l = lens_counted list n (λ d u some. known d u (let m = c.meta d u in omega (arith, m, some))) in
      omega (arith, s, g, l)

-- ---- other events

freed_from_dropped : (r : Role) → is_dropped_role (freed r) ≡ true → is_dropped_role r ≡ true
freed_from_dropped DeferredMeta is = refl
freed_from_dropped _ is = absurd (cc)

kept_from_dropped : (r : Role) → is_dropped_role (kept_of r) ≡ true → is_dropped_role r ≡ true
kept_from_dropped DeferredMeta is = refl
kept_from_dropped _ is = absurd (cc)

-- a free of a block gives no metadata back
pub freed_dropped : (old new : Space) (a : Dva) (birth : ℕ) → Frees old new a birth → dropped_units new ≤ dropped_units old
freed_dropped old new a birth f =
    let s = ap (λ (i : ℕ). sum_by (role_count new is_dropped_role) (range_with_len 0 i)) f.frame.devices in
    let g = sum_less (role_count new is_dropped_role) (role_count old is_dropped_role) (range_with_len 0 (length old.parts.devs)) each in
    omega (arith, s, g)
  where
    each : (d : ℕ) → role_count new is_dropped_role d ≤ role_count old is_dropped_role d
    each d =
        let s = ap (λ (i : ℕ). count_below i (λ u. is_dropped_role (role_at new d u))) (ap (λ r. r.units) (f.frame.each d).row) in
        let m = count_more (units_of_dev old.parts.devs d) (λ u. is_dropped_role (role_at new d u)) (λ u. is_dropped_role (role_at old d u))
        (λ u lt is. by_use old new a birth f d u (λ r. is_dropped_role r ≡ true → is_dropped_role (role_at old d u) ≡ true) (λ h. h) (freed_from_dropped (role_at old d u)) (kept_from_dropped (role_at old d u)) (ap is_dropped_role (sym (f.roles d u)) ∙ is)) in
        omega (arith, s, m)

-- where the commit has given nothing back yet
pub none_dropped : (s : Space) → IsLawful s → ((d : ℕ) → (opened_of s d).dropped ≡ []) → dropped_units s ≡ 0
none_dropped s l none =
    sum_as (role_count s is_dropped_role) (λ d. 0) (range_with_len 0 (length s.parts.devs)) each ∙ sum_zero (range_with_len 0 (length s.parts.devs))
  where
    each : (d : ℕ) → role_count s is_dropped_role d ≡ 0
    each d =
        count_as (units_of_dev s.parts.devs d) (λ u. is_dropped_role (role_at s d u)) (λ u. false) (λ u lt. dropped_is s d u l ∙ ap (λ (es : List Extent). has_unit es u) (none d))
        ∙ count_none (units_of_dev s.parts.devs d)
