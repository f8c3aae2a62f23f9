-- How many units are free after a call, and where a run is missing.
use Rattle.std.proofs.Common.{◌≡◌, ◌⊎◌, inl, inr, ℕ, zero, suc, ◌+◌, ◌-◌, ◌/◌, ◌<◌, ◌≤◌, ◌==◌, ◌&&◌, Bool, true, false, nat_le, nat_lt, List, [], ◌∷◌, length, refl, ◌∙◌, ap, arith, filter}
use Rattle.std.specs.Prelude.{if◌then◌else◌}
use Rattle.std.specs.List.{sum_by, range_with_len}
use Rattle.std.proofs.lemmas.List.Sums.{sum_by-cons}
use Rattle.std.proofs.lemmas.Bool.Decides.{nat_tests}
use Rattle.zr_base.specs.declared.space.Dva.{Dva}
use Rattle.zr_rules.specs.Places.{one_if, count_below, is_on, in_address, state_of_dev, units_of_dev, part_of}
use Rattle.zr_rules.specs.Placement.{Free, HasRun, HasRunSomewhere, HasNoPlacement}
use Rattle.zr_rules.specs.Columns.{free_of, free_units, columns, on_devices}
use Rattle.zr_rules.specs.Roles.{is_free_role}
use Rattle.zr_rules.specs.Space.{Space, role_at}

-- ---- units below a number

address_most : (n s len : ℕ) → (count_below n (λ u. nat_le s u && nat_lt u (s + len)) ≤ len) × (count_below n (λ u. nat_le s u && nat_lt u (s + len)) ≤ n - s)
address_most zero s len = (omega arith, omega arith)
address_most (suc n) s len =
    let r = address_most n s len in
    let a = r.0 in let b = r.1 in
    (grind (arith, nat_tests, a, b), grind (arith, nat_tests, a, b))

-- the first holds only where the second or the third does
pub count_either : (n : ℕ) (f g h : ℕ → Bool) → ((u : ℕ) → one_if (f u) ≤ one_if (g u) + one_if (h u)) → count_below n f ≤ count_below n g + count_below n h
count_either zero f g h le = omega arith
count_either (suc n) f g h le = let r = count_either n f g h le in let l = le n in omega (arith, r, l)

pub count_less : (n : ℕ) (f g : ℕ → Bool) → ((u : ℕ) → f u ≡ true → g u ≡ true) → count_below n f ≤ count_below n g
count_less zero f g le = omega arith
count_less (suc n) f g le = let r = count_less n f g le in let l = one (f n) (g n) (le n) in omega (arith, r, l)
  where
    one : (a b : Bool) → (a ≡ true → b ≡ true) → one_if a ≤ one_if b
    one true b h = let e = ap one_if (h refl) in omega (arith, e)
    one false b h = omega arith

-- ---- devices

sum_less : (f g h : ℕ → ℕ) (ds : List ℕ) → ((d : ℕ) → f d ≤ g d + h d) → sum_by f ds ≤ sum_by g ds + sum_by h ds
sum_less f g h [] le = omega arith
sum_less f g h (d ∷ ds) le =
    let r = sum_less f g h ds le in let l = le d in
    omega (arith, r, l, sum_by-cons f d ds, sum_by-cons g d ds, sum_by-cons h d ds)

abbrev at_one : ℕ → ℕ → ℕ → ℕ
at_one x n d = if d == x then n else 0

past_one : (test : ℕ → Bool) (x n a k : ℕ) → x < a → sum_by (at_one x n) (filter test (range_with_len a k)) ≡ 0
past_one test x n a zero lt = refl
past_one test x n a (suc k) lt =
    let rest = past_one test x n (a + 1) k (omega (arith, lt)) in
    let here : at_one x n a ≡ 0 = grind (arith, nat_tests, lt) in
    (elim (test a) as (λ (b : Bool). sum_by (at_one x n) (if b then a ∷ filter test (range_with_len (a + 1) k) else filter test (range_with_len (a + 1) k)) ≡ 0) [
      | true ↦ omega (arith, rest, here, sum_by-cons (at_one x n) a (filter test (range_with_len (a + 1) k)))
      | false ↦ rest
    ])

sum_one : (test : ℕ → Bool) (x n a k : ℕ) → sum_by (at_one x n) (filter test (range_with_len a k)) ≤ n
sum_one test x n a zero = omega arith
sum_one test x n a (suc k) =
    let rest = sum_one test x n (a + 1) k in
    (elim (test a) as (λ (b : Bool). sum_by (at_one x n) (if b then a ∷ filter test (range_with_len (a + 1) k) else filter test (range_with_len (a + 1) k)) ≤ n) [
      | true ↦ (elim (a == x) as (λ (c : Bool). (a == x) ≡ c → sum_by (at_one x n) (a ∷ filter test (range_with_len (a + 1) k)) ≤ n) [
        | true ↦ λ is.
            let none = past_one test x n (a + 1) k (grind (arith, nat_tests, is)) in
            let here : at_one x n a ≤ n = grind (arith, nat_tests, is) in
            omega (arith, none, here, sum_by-cons (at_one x n) a (filter test (range_with_len (a + 1) k)))
        | false ↦ λ is.
            let here : at_one x n a ≡ 0 = grind (arith, nat_tests, is) in
            omega (arith, rest, here, sum_by-cons (at_one x n) a (filter test (range_with_len (a + 1) k)))
      ]) refl
      | false ↦ rest
    ])

same_filter : (f g : ℕ → Bool) (ds : List ℕ) → ((d : ℕ) → f d ≡ g d) → filter f ds ≡ filter g ds
same_filter f g [] same = refl
same_filter f g (d ∷ ds) same =
    ap (λ (b : Bool). if b then d ∷ filter f ds else filter f ds) (same d)
    ∙ ap (λ (xs : List ℕ). if g d then d ∷ xs else xs) (same_filter f g ds same)

module _ (old new : Space) (devices : length new.parts.devs ≡ length old.parts.devs) (rows : (d : ℕ) → (part_of new.parts.devs d).row ≡ (part_of old.parts.devs d).row) where
  same_devices_on : on_devices new ≡ on_devices old
  same_devices_on =
      ap (λ (n : ℕ). filter (λ d. is_on (state_of_dev new.parts.devs d)) (range_with_len 0 n)) devices
      ∙ same_filter (λ d. is_on (state_of_dev new.parts.devs d)) (λ d. is_on (state_of_dev old.parts.devs d)) (range_with_len 0 (length old.parts.devs)) (λ d. ap (λ r. is_on r.state) (rows d))

  -- what a call leaves free and what it took are all that was free
  pub room_taken : (at : Dva) → ((d u : ℕ) → is_free_role (role_at old d u) ≡ true → in_address at d u ≡ false → is_free_role (role_at new d u) ≡ true) → free_units old ≤ free_units new + at.len
  room_taken at stays =
      let free_old : ℕ → ℕ = λ d. (columns old d).free in
      let free_new : ℕ → ℕ = λ d. (columns new d).free in
      let each : (d : ℕ) → free_old d ≤ free_new d + at_one at.dev at.len d = λ d.
      let n = units_of_dev old.parts.devs d in
      let c = count_either n (λ u. is_free_role (role_at old d u)) (λ u. is_free_role (role_at new d u)) (λ u. in_address at d u) (λ u. one_of (is_free_role (role_at old d u)) (is_free_role (role_at new d u)) (in_address at d u) (stays d u)) in
      let m = most_of at d n in
      let same : count_below (units_of_dev new.parts.devs d) (λ u. is_free_role (role_at new d u)) ≡ count_below n (λ u. is_free_role (role_at new d u)) = ap (λ r. count_below r.units (λ u. is_free_role (role_at new d u))) (rows d) in
      omega (arith, c, m, same) in
      let sums = sum_less free_old free_new (at_one at.dev at.len) (on_devices old) each in
      let one = sum_one (λ d. is_on (state_of_dev old.parts.devs d)) at.dev at.len 0 (length old.parts.devs) in
      let same : sum_by free_new (on_devices new) ≡ sum_by free_new (on_devices old) = ap (λ (ds : List ℕ). sum_by free_new ds) same_devices_on in
      omega (arith, sums, one, same)
    where
      one_of : (a b c : Bool) → (a ≡ true → c ≡ false → b ≡ true) → one_if a ≤ one_if b + one_if c
      one_of true b true h = omega arith
      one_of true b false h = let e = ap one_if (h refl refl) in omega (arith, e)
      one_of false b c h = omega arith

      most_of : (a : Dva) (d n : ℕ) → count_below n (λ u. in_address a d u) ≤ at_one a.dev a.len d
      most_of a d n = (elim (a.dev == d) as (λ (b : Bool). (a.dev == d) ≡ b → count_below n (λ u. b && (nat_le a.start u && nat_lt u (a.start + a.len))) ≤ at_one a.dev a.len d) [
        | true ↦ λ is. let m = (address_most n a.start a.len).0 in let e : at_one a.dev a.len d ≡ a.len = grind (arith, nat_tests, is) in omega (arith, m, e)
        | false ↦ λ is. let z = count_none n in omega (arith, z)
      ]) refl
        where
          count_none : (k : ℕ) → count_below k (λ u. false) ≡ 0
          count_none zero = refl
          count_none (suc k) = let r = count_none k in omega (arith, r)

  pub room_kept : ((d u : ℕ) → is_free_role (role_at old d u) ≡ true → is_free_role (role_at new d u) ≡ true) → free_units old ≤ free_units new
  room_kept stays =
      let nothing : Dva = record { dev = 0; start = 0; len = 0 } in
      let r = room_taken nothing (λ d u is out. stays d u is) in
      omega (arith, r)

-- ---- a run that is missing

-- a part of a run is a run
pub shorter_run : (f : Free) (more want : ℕ) → want ≤ more → HasRunSomewhere f more → HasRunSomewhere f want
shorter_run f more want le r =
    let to = r.run.to in
    record {
      dev = r.dev;
      metaslab = r.metaslab;
      known = r.known;
      serves = r.serves;
      run = record { at = r.run.at; from = r.run.from; to = omega (arith, to, le); free = λ u is. r.run.free u (grind (arith, nat_tests, is, le)) };
    }

pub is_short : (f : Free) (needed longest : ℕ) → 0 < needed → HasNoPlacement f needed longest → longest < needed
is_short f needed longest some none = elim (below_or needed longest) [
  | inl lt ↦ lt
  | inr le ↦ absurd (none.none (shorter_run f longest needed le (none.some (omega (arith, some, le)))))
]
  where
    below_or : (n m : ℕ) → (m < n) ⊎ (n ≤ m)
    below_or n m = grind (arith, nat_tests)

free_one : (f : Free) (d u : ℕ) → f.is_free d u ≡ true → HasRun f 1 d (u / 512)
free_one f d u is = record {
  at = u;
  from = omega arith;
  to = omega arith;
  free = λ v has. let e : v ≡ u = grind (arith, nat_tests, has) in ap (λ (w : ℕ). f.is_free d w) e ∙ is;
}

none_counted : (n : ℕ) (test : ℕ → Bool) → ((u : ℕ) → test u ≡ true → ⊥) → count_below n test ≡ 0
none_counted zero test none = refl
none_counted (suc n) test none =
    let r = none_counted n test none in
    (elim (test n) as (λ (b : Bool). test n ≡ b → count_below n test + one_if b ≡ 0) [
      | true ↦ λ is. absurd (none n is)
      | false ↦ λ is. omega (arith, r)
    ]) refl

no_room_among : (s : Space) (longest a k : ℕ) → a + k ≤ length s.parts.devs → HasNoPlacement (free_of s) 1 longest → sum_by (λ d. (columns s d).free) (filter (λ d. is_on (state_of_dev s.parts.devs d)) (range_with_len a k)) ≡ 0
no_room_among s longest a zero le none = refl
no_room_among s longest a (suc k) le none =
    let rest = no_room_among s longest (a + 1) k (omega (arith, le)) none in
    let ds = filter (λ d. is_on (state_of_dev s.parts.devs d)) (range_with_len (a + 1) k) in
    (elim (is_on (state_of_dev s.parts.devs a)) as (λ (b : Bool). is_on (state_of_dev s.parts.devs a) ≡ b → sum_by (λ d. (columns s d).free) (if b then a ∷ ds else ds) ≡ 0) [
      | true ↦ λ on.
          let here : (columns s a).free ≡ 0 = none_counted (units_of_dev s.parts.devs a) (λ u. is_free_role (role_at s a u)) (λ u is. none.none (record { dev = a; metaslab = u / 512; known = omega (arith, le); serves = on; run = free_one (free_of s) a u is })) in
          omega (arith, rest, here, sum_by-cons (λ d. (columns s d).free) a ds)
      | false ↦ λ on. rest
    ]) refl

-- where a run of one unit is missing no unit is free
pub no_room : (s : Space) (longest : ℕ) → HasNoPlacement (free_of s) 1 longest → free_units s ≡ 0
no_room s longest none = no_room_among s longest 0 (length s.parts.devs) (omega arith) none
