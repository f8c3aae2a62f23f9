-- Where an address leads that lies on a device that is not gone, and what a free marks where all devices are in service.
use Rattle.std.proofs.Common.{◌≡◌, ℕ, zero, suc, ◌+◌, ◌≤◌, ◌<◌, true, false, ◌==◌, ◌&&◌, nat_le, nat_lt, List, [], ◌∷◌, map, length, Option, Some, refl, ◌∙◌, sym, ap, ⊎_elim, arith}
use Rattle.std.specs.List.{range_with_len, list_any, sum_by}
use Rattle.std.proofs.lemmas.List.{length-map}
use Rattle.std.proofs.lemmas.List.Folds.{list_any-append}
use Rattle.std.proofs.lemmas.List.Sums.{sum_by-cons}
use Rattle.std.proofs.lemmas.Bool.{cases_lt}
use Rattle.std.proofs.lemmas.Bool.Decides.{nat_tests}
use Rattle.zr_base.specs.declared.space.Dva.{Dva}
use Rattle.zr_base.specs.declared.space.DevPart.{DevPart}
use Rattle.zr_base.specs.declared.space.DevState.{DevState}
use Rattle.zr_base.specs.declared.space.DevState.TheVariants.{On, Leaving, Gone}
use Rattle.zr_rules.specs.Places.{Place, one_if, is_on, is_gone, is_leaving, is_place, in_address, part_of}
use Rattle.zr_rules.specs.Devices.{Devices, state_at, devices_of}
use Rattle.zr_rules.specs.Resolve.{resolve, resolved, passed, passed_units, is_there, is_at, leads_to}
use Rattle.zr_rules.specs.Equation.{devices_in}
use Rattle.zr_metaslab.specs.Devices.{Devices as Slabs}
use Rattle.zr_space.specs.Paths.{AreInService}
use Rattle.zr_space.specs.Views.{Kept, kept_of, part_in, space_of, units_there, IsSpace}
use Rattle.zr_space.proofs.Views.{part_is}
use Rattle.zr_space.proofs.Turning.{none_beyond}
use Rattle.zr_space.specs.declared.whole.Whole.{Whole}

pub leads_within : (n : ℕ) (ds : Devices) (d u : ℕ) → 0 < n → is_gone (state_at ds d) ≡ false → is_there ds d u ≡ true → resolve n ds d u ≡ Some (d, u)
leads_within zero ds d u some on there = absurd (omega (arith, some))
leads_within (suc n) ds d u some on there = rw on rw there refl

pub passes_none : (n : ℕ) (ds : Devices) (d u : ℕ) → is_gone (state_at ds d) ≡ false → passed n ds d u ≡ []
passes_none zero ds d u on = refl
passes_none (suc n) ds d u on = rw on refl

any_at : (ds : Devices) (dev from n d u : ℕ) → ((v : ℕ) → from ≤ v → v < from + n → resolved ds dev v ≡ Some (dev, v))
    → list_any (λ (p : Option Place). is_at p d u) (map (λ (p : Place). resolved ds p.0 p.1) (map (λ (v : ℕ). (dev, v)) (range_with_len from n))) ≡ ((dev == d) && (nat_le from u && nat_lt u (from + n)))
any_at ds dev from zero d u here = grind (arith, nat_tests)
any_at ds dev from (suc n) d u here =
    let rest = any_at ds dev (from + 1) n d u (λ v le lt. here v (omega (arith, le)) (omega (arith, lt))) in
    let first : is_at (resolved ds dev from) d u ≡ (dev == d && (from == u)) = ap (λ (p : Option Place). is_at p d u) (here from (omega arith) (omega arith)) in
    let more = list_any-append (λ (p : Option Place). is_at p d u) (resolved ds dev from ∷ []) (map (λ (p : Place). resolved ds p.0 p.1) (map (λ (v : ℕ). (dev, v)) (range_with_len (from + 1) n))) in
    more ∙ grind (arith, nat_tests, first, rest)

pub hits_none : (ds : Devices) (dev from n d u : ℕ) → is_gone (state_at ds dev) ≡ false
    → sum_by (λ (p : Place). sum_by (λ (q : Place). one_if (is_place q d u)) (passed_units ds p.0 p.1)) (map (λ (v : ℕ). (dev, v)) (range_with_len from n)) ≡ 0
hits_none ds dev from zero d u on = refl
hits_none ds dev from (suc n) d u on =
    let rest = hits_none ds dev (from + 1) n d u on in
    let first : sum_by (λ (q : Place). one_if (is_place q d u)) (passed_units ds dev from) ≡ 0 = ap (λ (ps : List Place). sum_by (λ (q : Place). one_if (is_place q d u)) ps) (passes_none ds.count ds dev from on) in
    omega (arith, rest, first, sum_by-cons (λ (p : Place). sum_by (λ (q : Place). one_if (is_place q d u)) (passed_units ds p.0 p.1)) (dev, from) (map (λ (v : ℕ). (dev, v)) (range_with_len (from + 1) n)))

-- a device that has a unit is not gone
pub stays_there : (k : Kept) (u : ℕ) → k.uses.units ≡ units_there k.row → u < k.uses.units → is_gone k.row.state ≡ false
stays_there k u is lt = grind (arith, nat_tests, is, lt)

-- one that is not gone has the units of its row
pub all_units : (k : Kept) → k.uses.units ≡ units_there k.row → is_gone k.row.state ≡ false → k.uses.units ≡ k.row.units
all_units k is stays = grind (arith, nat_tests, is, stays)

-- an address within the units of a device that is not gone leads to its own
pub leads_here : (whole : Whole) (slabs : Slabs) (devs : List Kept) (space : IsSpace whole slabs devs) (a : Dva) (d u : ℕ) → 0 < a.len → a.dev < length devs → a.start + a.len ≤ (kept_of devs a.dev).uses.units
    → leads_to (devices_of (map part_in devs)) a d u ≡ in_address a d u
leads_here whole slabs devs space a d u some known within =
    let ds : Devices = devices_of (map part_in devs) in
    let rows = space.rows a.dev in
    let stays : is_gone (kept_of devs a.dev).row.state ≡ false = stays_there (kept_of devs a.dev) a.start rows (omega (arith, some, within)) in
    let all = all_units (kept_of devs a.dev) rows stays in
    let count : length (map part_in devs) ≡ length devs = length-map devs part_in in
    let gone : is_gone (state_at ds a.dev) ≡ false = ap (λ (p : DevPart). is_gone p.row.state) (part_is devs a.dev) ∙ stays in
    let units : (part_of (map part_in devs) a.dev).row.units ≡ (kept_of devs a.dev).row.units = ap (λ (p : DevPart). p.row.units) (part_is devs a.dev) in
    any_at ds a.dev a.start a.len d u (λ v le lt. leads_within ds.count ds a.dev v (omega (arith, known, count)) gone (grind (arith, nat_tests, known, count, units, all, lt, within)))

-- ---- where all devices are in service

false_true : false ≡ true → ⊥
false_true e = cc

on_state : (st : DevState) → is_gone st ≡ false → is_leaving st ≡ false → st ≡ On
on_state On there stays = refl
on_state Leaving there stays = absurd (true_false stays)
  where
    true_false : true ≡ false → ⊥
    true_false e = cc
on_state Gone there stays = absurd (true_false there)
  where
    true_false : true ≡ false → ⊥
    true_false e = cc

pub are_on : (whole : Whole) (devs : List Kept) → AreInService (devices_in (space_of whole devs)) → (d : ℕ) → (kept_of devs d).row.state ≡ On
are_on whole devs service d =
    on_state (kept_of devs d).row.state (sym (ap (λ (p : DevPart). is_gone p.row.state) (part_is devs d)) ∙ service.there d) (sym (ap (λ (p : DevPart). is_leaving p.row.state) (part_is devs d)) ∙ service.stays d)

on_there : (st : DevState) → is_on st ≡ true → is_gone st ≡ false
on_there On is = refl
on_there Leaving is = refl
on_there Gone is = absurd (false_true is)

pub on_stays : (st : DevState) → is_on st ≡ true → is_leaving st ≡ false
on_stays On is = refl
on_stays Leaving is = absurd (false_true is)
on_stays Gone is = refl

-- where each device that there is serves, all are in service
pub all_serve : (whole : Whole) (devs : List Kept) → ((d : ℕ) → d < length devs → is_on (kept_of devs d).row.state ≡ true) → AreInService (devices_in (space_of whole devs))
all_serve whole devs all = record {
  there = λ d. ap (λ (p : DevPart). is_gone p.row.state) (part_is devs d) ∙ on_there (kept_of devs d).row.state (each d);
  stays = λ d. ap (λ (p : DevPart). is_leaving p.row.state) (part_is devs d) ∙ on_stays (kept_of devs d).row.state (each d);
}
  where
    each : (d : ℕ) → is_on (kept_of devs d).row.state ≡ true
    each d = ⊎_elim (λ lt. all d lt) (λ past. ap (λ (k : Kept). is_on k.row.state) (none_beyond devs d past)) (cases_lt d (length devs))
