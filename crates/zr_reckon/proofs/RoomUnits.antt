-- The free units and the metadata that comes back, by roles.
use Rattle.std.proofs.Common.{◌≡◌, ℕ, ◌+◌, ◌-◌, ◌*◌, ◌<◌, ◌≤◌, Bool, true, false, ◌==◌, nat_lt, List, [], ◌∷◌, length, refl, ◌∙◌, sym, arith, if◌then◌else◌, ⊎_elim}
use Rattle.std.specs.Prelude.{filter}
use Rattle.std.specs.List.{sum_by, range_with_len}
use Rattle.std.proofs.lemmas.Bool.{cases_lt, cases_eq}
use Rattle.std.proofs.lemmas.Bool.Decides.{nat_tests}
use Rattle.std.proofs.lemmas.List.Sums.{sum_by-cons}
use Rattle.zr_base.specs.declared.space.Extent.{Extent}
use Rattle.zr_base.specs.declared.space.Dva.{Dva}
use Rattle.zr_base.specs.declared.space.LateRun.{LateRun}
use Rattle.zr_base.specs.declared.space.DevPart.{DevPart}
use Rattle.zr_base.specs.Extents.{in_extent}
use Rattle.zr_rules.specs.Places.{one_if, count_below, in_address, address_hits, hits_late, part_of, is_on, state_of_dev, units_of_dev}
use Rattle.zr_rules.specs.Roles.{Role, is_free_role}
use Rattle.zr_rules.specs.Roles.Role.{Free, Meta, Late1Meta, Late2Meta}
use Rattle.zr_rules.specs.Space.{Space, has_late, role_at, set_hits, IsLawful}
use Rattle.zr_rules.specs.Columns.{role_count, on_devices, on_parts, units_on, late_meta_units, free_units, sizes}
use Rattle.zr_reckon.specs.Uses.{is_room_role, room}
use Rattle.zr_reckon.proofs.Bits.{is_current_meta, is_late1_meta, is_late2_meta}
use Rattle.zr_reckon.proofs.RoleSets.{late_hits_most, meta_is, late1_meta_is, late2_meta_is}
use Rattle.zr_reckon.proofs.Counting.{count_as, count_with, count_none, count_four, sum_both, sum_less, sum_passing, sum_zero, sum_at, sum_at_most, only_at, by_index}

abbrev address_extent : Dva → Extent
address_extent a = record { start = a.start; len = a.len }

-- addresses that have each unit of a device once at most, and no unit from n on, have as many units there as pass
pub units_counted : (list : List Dva) (d n : ℕ) → ((u : ℕ) → address_hits list d u ≤ one_if (nat_lt u n)) → units_on list d ≡ count_below n (λ u. nat_lt 0 (address_hits list d u))
units_counted [] d n le = sym (count_none n)
units_counted (a ∷ list) d n le =
    let rest = units_counted list d n (λ u. let b = le u in let m = more u in omega (arith, b, m)) in
    let sum = sum_by-cons (λ (x : Dva). if x.dev == d then x.len else 0) a list in
    ⊎_elim
    (λ here.
    let w = count_with n (λ u. nat_lt 0 (address_hits list d u)) (λ u. nat_lt 0 (address_hits (a ∷ list) d u)) (address_extent a)
    (λ some. let b = le (a.start + a.len - 1) in let m = more (a.start + a.len - 1) in grind (arith, nat_tests, b, m, here, some))
    (λ u is. let b = le u in let m = more u in grind (arith, nat_tests, b, m, here, is))
    (λ u lt. let m = more u in grind (arith, nat_tests, m, here)) in
    grind (arith, nat_tests, w, rest, sum, here))
    (λ away.
    let w = count_as n (λ u. nat_lt 0 (address_hits (a ∷ list) d u)) (λ u. nat_lt 0 (address_hits list d u)) (λ u lt. let m = more u in grind (arith, nat_tests, m, away)) in
    grind (arith, nat_tests, w, rest, sum, away))
    (cases_eq a.dev d)
  where
    more : (u : ℕ) → address_hits (a ∷ list) d u ≡ one_if (in_address a d u) + address_hits list d u
    more u = sum_by-cons (λ (x : Dva). one_if (in_address x d u)) a list

-- the same of the metadata of a late set
pub late_counted : (runs : List LateRun) (n : ℕ) → ((u : ℕ) → hits_late runs u ≤ one_if (nat_lt u n)) → late_meta_units runs ≡ count_below n (has_late true runs)
late_counted [] n le = sym (count_none n)
late_counted (r ∷ runs) n le =
    let rest = late_counted runs n (λ u. let b = le u in let m = more u in omega (arith, b, m)) in
    let sum = sum_by-cons (λ (x : LateRun). if x.meta then x.at.len else 0) r runs in
    by_kind r.meta refl rest sum
  where
    more : (u : ℕ) → hits_late (r ∷ runs) u ≡ one_if (in_extent r.at u) + hits_late runs u
    more u = sum_by-cons (λ (x : LateRun). one_if (in_extent x.at u)) r runs

    by_kind : (b : Bool) → r.meta ≡ b → late_meta_units runs ≡ count_below n (has_late true runs) → late_meta_units (r ∷ runs) ≡ (if r.meta then r.at.len else 0) + late_meta_units runs → late_meta_units (r ∷ runs) ≡ count_below n (has_late true (r ∷ runs))
    by_kind true is rest sum =
        let w = count_with n (has_late true runs) (has_late true (r ∷ runs)) r.at
        (λ some. let b = le (r.at.start + r.at.len - 1) in let m = more (r.at.start + r.at.len - 1) in grind (arith, nat_tests, b, m, some))
        (λ u here. let b = le u in let m = more u in let h = late_hits_most runs u in grind (arith, nat_tests, b, m, h, here))
        (λ u lt. grind (arith, is)) in
        grind (arith, w, rest, sum, is)
    by_kind false is rest sum =
        let w = count_as n (has_late true (r ∷ runs)) (has_late true runs) (λ u lt. grind (arith, is)) in
        grind (arith, w, rest, sum, is)

four_kinds : (r : Role) → one_if (is_free_role r) + one_if (is_current_meta r) + one_if (is_late1_meta r) + one_if (is_late2_meta r) ≡ one_if (is_room_role r)
four_kinds Free = refl
four_kinds Meta = refl
four_kinds Late1Meta = refl
four_kinds Late2Meta = refl
four_kinds _ = refl

module _ (s : Space) (l : IsLawful s) where
  -- a unit that is hit is there
  hit_within : (d u : ℕ) → set_hits s d u ≤ one_if (nat_lt u (units_of_dev s.parts.devs d))
  hit_within d u = let o = l.once d u in grind (arith, nat_tests, o)

  pub meta_hits : (d u : ℕ) → address_hits s.meta d u ≤ one_if (nat_lt u (units_of_dev s.parts.devs d))
  meta_hits d u = let h = hit_within d u in omega (arith, h)

  room_at : (d : ℕ) → role_count s is_free_role d + units_on s.meta d + late_meta_units (part_of s.parts.devs d).late1 + late_meta_units (part_of s.parts.devs d).late2 ≡ role_count s is_room_role d
  room_at d =
      let n = units_of_dev s.parts.devs d in
      let a = units_counted s.meta d n (meta_hits d) in
      let b = late_counted (part_of s.parts.devs d).late1 n (λ u. let h = hit_within d u in omega (arith, h)) in
      let c = late_counted (part_of s.parts.devs d).late2 n (λ u. let h = hit_within d u in omega (arith, h)) in
      let x = count_as n (λ u. nat_lt 0 (address_hits s.meta d u)) (λ u. is_current_meta (role_at s d u)) (λ u lt. meta_is s d u l) in
      let y = count_as n (has_late true (part_of s.parts.devs d).late1) (λ u. is_late1_meta (role_at s d u)) (λ u lt. late1_meta_is s d u l) in
      let z = count_as n (has_late true (part_of s.parts.devs d).late2) (λ u. is_late2_meta (role_at s d u)) (λ u lt. late2_meta_is s d u l) in
      let all = count_four n (λ u. is_free_role (role_at s d u)) (λ u. is_current_meta (role_at s d u)) (λ u. is_late1_meta (role_at s d u)) (λ u. is_late2_meta (role_at s d u)) (λ u. is_room_role (role_at s d u)) (λ u. four_kinds (role_at s d u)) in
      omega (arith, a, b, c, x, y, z, all)

  on_sum : (g : DevPart → ℕ) → sum_by g (on_parts s.parts.devs) ≡ sum_by (λ d. g (part_of s.parts.devs d)) (on_devices s)
  on_sum g =
      sum_passing g (λ p. is_on p.row.state) s.parts.devs
      ∙ (by_index (λ p. if is_on p.row.state then g p else 0) s.parts.devs
      ∙ sym (sum_passing (λ d. g (part_of s.parts.devs d)) (λ d. is_on (state_of_dev s.parts.devs d)) (range_with_len 0 (length s.parts.devs))))

  pub room_is : (blocks objects : ℕ) → free_units s + (sizes s blocks objects).turning ≡ room s
  room_is blocks objects =
      let on = on_devices s in
      let a = on_sum (λ p. late_meta_units p.late1) in
      let b = on_sum (λ p. late_meta_units p.late2) in
      let free = λ (d : ℕ). role_count s is_free_role d in
      let first = λ (d : ℕ). late_meta_units (part_of s.parts.devs d).late1 in
      let second = λ (d : ℕ). late_meta_units (part_of s.parts.devs d).late2 in
      let x = sum_both (λ (d : ℕ). role_count s is_free_role d + units_on s.meta d) free (units_on s.meta) on (λ d. refl) in
      let y = sum_both (λ (d : ℕ). role_count s is_free_role d + units_on s.meta d + late_meta_units (part_of s.parts.devs d).late1) (λ (d : ℕ). role_count s is_free_role d + units_on s.meta d) first on (λ d. refl) in
      let z = sum_both (role_count s is_room_role) (λ (d : ℕ). role_count s is_free_role d + units_on s.meta d + late_meta_units (part_of s.parts.devs d).late1) second on (λ d. sym (room_at d)) in
      omega (arith, a, b, x, y, z)

-- the units of all addresses, by device
pub lens_counted : (list : List Dva) (n : ℕ) → ((d u : ℕ) → 0 < address_hits list d u → d < n) → sum_by (λ (a : Dva). a.len) list ≡ sum_by (units_on list) (range_with_len 0 n)
lens_counted [] n known = sym (sum_zero (range_with_len 0 n))
lens_counted (a ∷ list) n known =
    let rest = lens_counted list n (λ d u some. known d u (let m = more d u in omega (arith, m, some))) in
    let sum = sum_by-cons (λ (x : Dva). x.len) a list in
    let both = sum_both (units_on (a ∷ list)) (units_on list) (only_at a.dev a.len) (range_with_len 0 n) (λ d. let m = sum_by-cons (λ (x : Dva). if x.dev == d then x.len else 0) a list in grind (arith, nat_tests, m)) in
    ⊎_elim
    (λ some.
    let lt = known a.dev a.start (let m = more a.dev a.start in grind (arith, nat_tests, m, some)) in
    let one = sum_at a.dev a.len n lt in
    omega (arith, rest, sum, both, one))
    (λ none.
    let one = sum_at_most a.dev a.len n in
    omega (arith, rest, sum, both, one, none))
    (cases_lt 0 a.len)
  where
    more : (d u : ℕ) → address_hits (a ∷ list) d u ≡ one_if (in_address a d u) + address_hits list d u
    more d u = sum_by-cons (λ (x : Dva). one_if (in_address x d u)) a list

-- ---- what comes back

-- the units of addresses on so many devices are no more than all
units_most : (list : List Dva) (n : ℕ) → sum_by (units_on list) (range_with_len 0 n) ≤ sum_by (λ (a : Dva). a.len) list
units_most [] n = let z = sum_zero (range_with_len 0 n) in omega (arith, z)
units_most (a ∷ list) n =
    let rest = units_most list n in
    let sum = sum_by-cons (λ (x : Dva). x.len) a list in
    let both = sum_both (units_on (a ∷ list)) (units_on list) (only_at a.dev a.len) (range_with_len 0 n) (λ d. let m = sum_by-cons (λ (x : Dva). if x.dev == d then x.len else 0) a list in grind (arith, nat_tests, m)) in
    let one = sum_at_most a.dev a.len n in
    omega (arith, rest, sum, both, one)

-- a sum over those that pass is no more than one over all
passing_less : {X : Type 0} (h : X → ℕ) (p : X → Bool) (xs : List X) → sum_by h (filter p xs) ≤ sum_by h xs
passing_less {X} h p xs =
    let s = sum_passing h p xs in
    let g = sum_less (λ (x : X). if p x then h x else 0) h xs (λ x. choose (p x) (h x)) in
    omega (arith, s, g)
  where
    choose : (b : Bool) (n : ℕ) → (if b then n else 0) ≤ n
    choose true n = omega arith
    choose false n = omega arith

pub turning_most : (s : Space) (blocks objects : ℕ) → (sizes s blocks objects).turning ≤ 3 * (sizes s blocks objects).past
turning_most s blocks objects =
    let now = passing_less (units_on s.meta) (λ d. is_on (state_of_dev s.parts.devs d)) (range_with_len 0 (length s.parts.devs)) in
    let all = units_most s.meta (length s.parts.devs) in
    let first = passing_less (λ (p : DevPart). late_meta_units p.late1) (λ (p : DevPart). is_on p.row.state) s.parts.devs in
    let second = passing_less (λ (p : DevPart). late_meta_units p.late2) (λ (p : DevPart). is_on p.row.state) s.parts.devs in
    omega (arith, now, all, first, second)
