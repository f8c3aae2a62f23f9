-- The next copy is planned: a front of what is left to copy gets a place, and there is one while there are as many free units as are left.
use Rattle.std.proofs.Common.{◌≡◌, ℕ, zero, suc, ◌+◌, ◌-◌, ◌/◌, ◌≤◌, ◌<◌, Bool, true, false, nat_lt, List, [], ◌∷◌, length, refl, ◌∙◌, sym, ap, subst, arith, ⊎_elim, if◌then◌else◌}
use Rattle.std.specs.Prelude.{Some, None}
use Rattle.std.specs.List.{sum_by, range_with_len}
use Rattle.std.proofs.lemmas.Bool.{cases_lt}
use Rattle.std.proofs.lemmas.Bool.Decides.{nat_tests}
use Rattle.std.proofs.lemmas.List.Sums.{sum_by-cons}
use Rattle.zr_base.specs.declared.space.DevPart.{DevPart}
use Rattle.zr_base.specs.declared.space.Dva.{Dva}
use Rattle.zr_base.specs.declared.space.Extent.{Extent}
use Rattle.zr_base.specs.declared.space.Policy.{Policy}
use Rattle.zr_base.specs.Extents.{has_unit, in_extent, extent_at, first_part_from, IsMaximal, IsMaximalFrom}
use Rattle.zr_rules.specs.Columns.{columns, free_of, free_units, uncopied_units, units_from}
use Rattle.zr_rules.specs.Places.{count_below, is_on, is_leaving, part_of, state_of_dev, units_of_dev}
use Rattle.zr_rules.specs.Placement.{Free, IsPlacement, HasRunSomewhere, in_metaslab}
use Rattle.zr_rules.specs.Roles.{is_held_role, is_free_role}
use Rattle.zr_rules.specs.Space.{Space, role_at, frontier, IsLawful}
use Rattle.zr_units.specs.Uses.{Uses, IsAccount}
use Rattle.zr_rules.specs.Steps.{half as halved}
use Rattle.zr_metaslab.specs.Devices as slab
use Rattle.zr_metaslab.specs.Devices.{Devices, Takes, extent_of}
use Rattle.zr_space.specs.Copying.{TakesHalf}
use Rattle.zr_space.specs.Plans.{IsLowestOf}
use Rattle.zr_space.specs.Views.{role_in}
use Rattle.zr_space.proofs.Totalling.{sum_none, sum_passing, range_more}

false_true : false ≡ true → ⊥
false_true e = cc

-- ---- held units by their roles

pub held_as : (f : ℕ → Bool) (n : ℕ) (x : Uses) → IsAccount f n x → (u : ℕ) → is_held_role (role_in x u) ≡ has_unit x.held u
held_as f n x a u = let o = a.once u in grind (arith, nat_tests, o)

-- ---- a placement has its run

-- an extent of a maximal list is not empty, and its units are of the set
pub at_index : (low i : ℕ) (es : List Extent) → IsMaximalFrom low es → i < length es → (0 < (extent_at es i).len) × ((u : ℕ) → in_extent (extent_at es i) u ≡ true → has_unit es u ≡ true)
at_index low i [] m lt = absurd (omega (arith, lt))
at_index low zero (e ∷ es) m lt = (m.1, λ u is. grind (arith, nat_tests, is))
at_index low (suc i) (e ∷ es) m lt = let rest = at_index (e.start + e.len + 1) i es m.3 (omega (arith, lt)) in (rest.0, λ u is. let r = rest.1 u is in grind (arith, nat_tests, r))

pub placement_run : (f : Free) (policy : Policy) (want : ℕ) (at : Dva) → IsPlacement f policy want at → HasRunSomewhere f want
placement_run f policy want at p = record {
  dev = at.dev;
  metaslab = p.metaslab;
  known = p.known;
  serves = p.serves;
  run = record {
    at = (extent_at p.runs p.index).start;
    from = let first = inside (extent_at p.runs p.index).start (grind (arith, nat_tests, some)) in grind (arith, nat_tests, first);
    to = let last = inside ((extent_at p.runs p.index).start + (extent_at p.runs p.index).len - 1) (grind (arith, nat_tests, some)) in let fits = p.fits in grind (arith, nat_tests, last, fits, some);
    free = λ u is. let fits = p.fits in let m = p.are_runs.members u in let r = within.1 u (grind (arith, nat_tests, is, fits)) in grind (arith, nat_tests, m, r);
  };
}
  where
    within : (0 < (extent_at p.runs p.index).len) × ((u : ℕ) → in_extent (extent_at p.runs p.index) u ≡ true → has_unit p.runs u ≡ true)
    within = at_index 0 p.index p.runs p.are_runs.maximal p.inside

    some : 0 < (extent_at p.runs p.index).len
    some = within.0

    inside : (u : ℕ) → in_extent (extent_at p.runs p.index) u ≡ true → in_metaslab p.metaslab u ≡ true
    inside u is = let m = p.are_runs.members u in let r = within.1 u is in grind (arith, nat_tests, m, r)

-- ---- where not even one unit has a place none is free

count_none : (n : ℕ) (f : ℕ → Bool) → ((u : ℕ) → f u ≡ false) → count_below n f ≡ 0
count_none zero f none = refl
count_none (suc n) f none = let r = count_none n f none in let z = none n in grind (arith, r, z)

one_run : (f : Free) (d u : ℕ) → d < f.devs → f.serves d ≡ true → f.is_free d u ≡ true → HasRunSomewhere f 1
one_run f d u known serves free = record {
  dev = d;
  metaslab = u / 512;
  known = known;
  serves = serves;
  run = record {
    at = u;
    from = omega arith;
    to = omega arith;
    free = λ v is. let same : v ≡ u = grind (arith, nat_tests, is) in subst (λ w. f.is_free d w ≡ true) (sym same) free;
  };
}

past_parts : (parts : List DevPart) (d : ℕ) → length parts ≤ d → units_of_dev parts d ≡ 0
past_parts [] zero le = refl
past_parts [] (suc d) le = refl
past_parts (p ∷ ps) zero le = absurd (omega (arith, le))
past_parts (p ∷ ps) (suc d) le = past_parts ps d (omega (arith, le))

pub none_free : (s : Space) → (HasRunSomewhere (free_of s) 1 → ⊥) → free_units s ≡ 0
none_free s none =
    sum_passing (λ (d : ℕ). (columns s d).free) (λ d. is_on (state_of_dev s.parts.devs d)) (range_with_len 0 (length s.parts.devs))
    ∙ sum_none (λ (d : ℕ). if is_on (state_of_dev s.parts.devs d) then (columns s d).free else 0) (range_with_len 0 (length s.parts.devs)) each
  where
    unfree : (d : ℕ) → d < length s.parts.devs → is_on (state_of_dev s.parts.devs d) ≡ true → (u : ℕ) → is_free_role (role_at s d u) ≡ false
    unfree d lt on u = by (is_free_role (role_at s d u)) refl
      where
        by : (b : Bool) → is_free_role (role_at s d u) ≡ b → is_free_role (role_at s d u) ≡ false
        by true is = absurd (none (one_run (free_of s) d u lt on is))
        by false is = is

    here : (d : ℕ) → (b : Bool) → is_on (state_of_dev s.parts.devs d) ≡ b → (if b then (columns s d).free else 0) ≡ 0
    here d false is = refl
    here d true is =
        ⊎_elim
        (λ lt. count_none (units_of_dev s.parts.devs d) (λ u. is_free_role (role_at s d u)) (unfree d lt is))
        (λ past. ap (λ n. count_below n (λ u. is_free_role (role_at s d u))) (past_parts s.parts.devs d past))
        (cases_lt d (length s.parts.devs))

    each : (d : ℕ) → (if is_on (state_of_dev s.parts.devs d) then (columns s d).free else 0) ≡ 0
    each d = here d (is_on (state_of_dev s.parts.devs d)) refl

-- ---- something is left to copy

sum_at : (h : ℕ → ℕ) (n d : ℕ) → d < n → h d ≤ sum_by h (range_with_len 0 n)
sum_at h zero d lt = absurd (omega (arith, lt))
sum_at h (suc n) d lt =
    let more = range_more h 0 n in
    let z : 0 + n ≡ n = omega arith in
    let e = ap h z in
    let plus : n + 1 ≡ suc n = omega arith in
    let all = ap (λ k. sum_by h (range_with_len 0 k)) plus in
    ⊎_elim
    (λ below. let rest = sum_at h n d below in omega (arith, more, rest, all))
    (λ past. let same : d ≡ n = omega (arith, lt, past) in let at = ap h same in omega (arith, more, e, all, at))
    (cases_lt d n)

front_units : (low u : ℕ) (es : List Extent) (front : Extent) → IsMaximalFrom low es → first_part_from u es ≡ Some front → 1 ≤ sum_by (units_from u) es
front_units low u [] front m is = absurd (none_some front is)
  where
    none_some : (x : Extent) → None ≡ Some x → ⊥
    none_some x e = cc
front_units low u (e ∷ es) front m is =
    by (nat_lt u (e.start + e.len)) refl (sum_by-cons (units_from u) e es) (front_units (e.start + e.len + 1) u es front m.3)
  where
    by : (b : Bool) → nat_lt u (e.start + e.len) ≡ b → sum_by (units_from u) (e ∷ es) ≡ units_from u e + sum_by (units_from u) es → (first_part_from u es ≡ Some front → 1 ≤ sum_by (units_from u) es) → 1 ≤ sum_by (units_from u) (e ∷ es)
    by true lt all rest = let long = m.1 in let here : 1 ≤ units_from u e = grind (arith, nat_tests, lt, long) in omega (arith, all, here)
    by false past all rest = let some = rest (rw past at is) in omega (arith, all, some)

pub some_uncopied : (s : Space) (d : ℕ) (front : Extent) → d < length s.parts.devs → IsMaximal (part_of s.parts.devs d).held → IsLowestOf s d front → 1 ≤ uncopied_units s
some_uncopied s d front there m h =
    let at = sum_at (λ (i : ℕ). if is_leaving (part_of s.parts.devs i).row.state then sum_by (units_from (frontier s i)) (part_of s.parts.devs i).held else 0) (length s.parts.devs) d there in
    let some = front_units 0 (frontier s d) (part_of s.parts.devs d).held front m h.lowest in
    let here : (if is_leaving (part_of s.parts.devs d).row.state then sum_by (units_from (frontier s d)) (part_of s.parts.devs d).held else 0) ≡ sum_by (units_from (frontier s d)) (part_of s.parts.devs d).held = rw h.leaving refl in
    omega (arith, at, some, here)

-- ---- halves

-- so many halves have no place, and where the next is nothing not even one unit has one
pub record IsHalving (f : Free) (most want : ℕ) : Type 0 where
  pub k : ℕ
  pub half_is : want ≡ halved k most
  pub none : (j : ℕ) → j < k → HasRunSomewhere f (halved j most) → ⊥
  pub last : want ≡ 0 → HasRunSomewhere f 1 → ⊥

pub halving_first : (f : Free) (most : ℕ) → 0 < most → IsHalving f most most
halving_first f most some = record {
  k = 0;
  half_is = refl;
  none = λ j lt. absurd (omega (arith, lt));
  last = λ zero. absurd (omega (arith, zero, some));
}

pub halving_next : (f : Free) (most want : ℕ) → IsHalving f most want → 0 < want → (HasRunSomewhere f want → ⊥) → IsHalving f most (want / 2)
halving_next f most want h some none = record {
  k = suc h.k;
  half_is = ap (λ n. n / 2) h.half_is;
  none = λ j lt.
      ⊎_elim
      (λ below. h.none j below)
      (λ past. let same : j ≡ h.k = omega (arith, lt, past) in λ run. none (subst (HasRunSomewhere f) (sym h.half_is) (subst (λ i. HasRunSomewhere f (halved i most)) same run)))
      (cases_lt j h.k);
  last = λ zero run. let one : want ≡ 1 = omega (arith, zero, some) in none (subst (HasRunSomewhere f) (sym one) run);
}

pub takes : (policy : Policy) (most want : ℕ) (s t : Devices) (at : Dva) → IsHalving (slab.free_of s) most want → 0 < want → IsPlacement (slab.free_of s) policy want at → Takes s t at.dev (extent_of at) → TakesHalf policy most s t at
takes policy most want s t at h some place taken =
    let len : at.len ≡ want = place.len in
    record {
      k = h.k;
      half_is = len ∙ h.half_is;
      some = omega (arith, len, some);
      place = subst (λ n. IsPlacement (slab.free_of s) policy n at) (sym len) place;
      none = h.none;
      taken = taken;
    }

-- ---- there is a place

on_past : (parts : List DevPart) (d : ℕ) → length parts ≤ d → is_leaving (state_of_dev parts d) ≡ false
on_past [] zero le = refl
on_past [] (suc d) le = refl
on_past (p ∷ ps) zero le = absurd (omega (arith, le))
on_past (p ∷ ps) (suc d) le = on_past ps d (omega (arith, le))

-- where there are as many free units as are left to copy one of them has a place
pub has_place : (s : Space) (d : ℕ) (front : Extent) → IsLawful s → IsLowestOf s d front → uncopied_units s ≤ free_units s → (HasRunSomewhere (free_of s) 1 → ⊥) → ⊥
has_place s d front l low room none =
    let there : d < length s.parts.devs = ⊎_elim (λ lt. lt) (λ past. absurd (false_true (sym (on_past s.parts.devs d past) ∙ low.leaving))) (cases_lt d (length s.parts.devs)) in
    let some = some_uncopied s d front there (l.sets d).held.maximal low in
    let free = none_free s none in
    omega (arith, some, free, room)
