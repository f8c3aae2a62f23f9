-- Where a unit is free, a run of one unit is found.
use Rattle.std.proofs.Common.{◌≡◌, ℕ, zero, suc, ◌+◌, ◌/◌, ◌<◌, Bool, true, false, length, refl, ◌∙◌, ap, arith, ⊎_elim}
use Rattle.std.specs.Prelude.{filter}
use Rattle.std.specs.List.{sum_by, range_with_len}
use Rattle.std.proofs.lemmas.Bool.{cases_lt}
use Rattle.std.proofs.lemmas.Bool.Decides.{nat_tests}
use Rattle.std.proofs.lemmas.List.Sums.{sum_by-cons}
use Rattle.zr_rules.specs.Columns.{free_of, free_units, role_count}
use Rattle.zr_rules.specs.Placement.{HasNoPlacement, HasRunSomewhere}
use Rattle.zr_rules.specs.Places.{count_below, is_on, state_of_dev, units_of_dev}
use Rattle.zr_rules.specs.Roles.{is_free_role}
use Rattle.zr_rules.specs.Space.{Space, role_at}

-- a number below n at which the test holds
record Below (n : ℕ) (test : ℕ → Bool) : Type 0 where
  pub at : ℕ
  pub below : at < n
  pub holds : test at ≡ true

some_below : (n : ℕ) (test : ℕ → Bool) → 0 < count_below n test → Below n test
some_below zero test some = absurd (omega (arith, some))
some_below (suc n) test some = by_test (test n) refl (some_below n test)
  where
    by_test : (b : Bool) → test n ≡ b → (0 < count_below n test → Below n test) → Below (suc n) test
    by_test true is lower = record { at = n; below = omega arith; holds = is }
    by_test false is lower =
        let k : count_below (suc n) test ≡ count_below n test = rw is (omega arith) in
        let r = lower (omega (arith, some, k)) in
        let lt = r.below in
        record { at = r.at; below = omega (arith, lt); holds = r.holds }

-- a number of the range that passes, of which there is some
record Among (low n : ℕ) (test : ℕ → Bool) (count : ℕ → ℕ) : Type 0 where
  pub at : ℕ
  pub below : at < low + n
  pub holds : test at ≡ true
  pub some : 0 < count at

some_among : (low n : ℕ) (test : ℕ → Bool) (count : ℕ → ℕ) → 0 < sum_by count (filter test (range_with_len low n)) → Among low n test count
some_among low zero test count some = absurd (omega (arith, some))
some_among low (suc n) test count some = by_test (test low) refl (some_among (low + 1) n test count)
  where
    later : Among (low + 1) n test count → Among low (suc n) test count
    later r = let lt = r.below in record { at = r.at; below = omega (arith, lt); holds = r.holds; some = r.some }

    by_test : (b : Bool) → test low ≡ b → (0 < sum_by count (filter test (range_with_len (low + 1) n)) → Among (low + 1) n test count) → Among low (suc n) test count
    by_test true is rest = ⊎_elim
        (λ here. record { at = low; below = omega arith; holds = is; some = here })
        (λ none.
        let k : sum_by count (filter test (range_with_len low (suc n))) ≡ count low + sum_by count (filter test (range_with_len (low + 1) n)) = rw is (sum_by-cons count low (filter test (range_with_len (low + 1) n))) in
        later (rest (omega (arith, some, none, k))))
        (cases_lt 0 (count low))
    by_test false is rest =
        let k : sum_by count (filter test (range_with_len low (suc n))) ≡ sum_by count (filter test (range_with_len (low + 1) n)) = rw is refl in
        later (rest (omega (arith, some, k)))

pub unit_found : (s : Space) → 0 < free_units s → HasRunSomewhere (free_of s) 1
unit_found s some =
    let d = some_among 0 (length s.parts.devs) (λ d. is_on (state_of_dev s.parts.devs d)) (role_count s is_free_role) some in
    let u = some_below (units_of_dev s.parts.devs d.at) (λ u. is_free_role (role_at s d.at u)) d.some in
    let lt = d.below in
    record {
      dev = d.at;
      metaslab = u.at / 512;
      known = omega (arith, lt);
      serves = d.holds;
      run = record {
        at = u.at;
        from = omega arith;
        to = omega arith;
        free = λ v is. ap (λ (x : ℕ). is_free_role (role_at s d.at x)) (let same : v ≡ u.at = grind (arith, nat_tests, is) in same) ∙ u.holds;
      };
    }

pub none_refused : (s : Space) (longest : ℕ) → 0 < free_units s → ¬ HasNoPlacement (free_of s) 1 longest
none_refused s longest some missing = missing.none (unit_found s some)
