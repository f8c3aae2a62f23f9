-- Where one device changes its state, and the others stay.
use Rattle.std.proofs.Common.{◌≡◌, ◌≢◌, ℕ, ◌+◌, ◌<◌, Bool, true, false, List, [], ◌∷◌, length, refl, ◌∙◌, sym, ap, ap₂, arith, if◌then◌else◌, ⊎_elim}
use Rattle.std.specs.List.{sum_by, range_with_len}
use Rattle.std.proofs.lemmas.Bool.{cases_eq}
use Rattle.std.proofs.lemmas.Bool.Decides.{nat_tests}
use Rattle.std.proofs.lemmas.List.Sums.{sum_by-cons}
use Rattle.zr_base.specs.declared.space.Extent.{Extent}
use Rattle.zr_base.specs.declared.space.Entry.{Entry}
use Rattle.zr_base.specs.declared.space.DevPart.{DevPart}
use Rattle.zr_base.specs.declared.space.DevRow.{DevRow}
use Rattle.zr_base.specs.declared.space.DevState.{DevState}
use Rattle.zr_base.specs.declared.space.DevState.TheVariants.{On, Leaving, Gone}
use Rattle.zr_base.specs.Extents.{unit_count}
use Rattle.zr_rules.specs.Places.{count_below, is_on, is_leaving, part_of, state_of_dev, units_of_dev}
use Rattle.zr_rules.specs.Mappings.{end_of_last}
use Rattle.zr_rules.specs.Roles.{Role}
use Rattle.zr_rules.specs.Space.{Space, role_at, frontier, IsLawful}
use Rattle.zr_rules.specs.Columns.{role_count, units_from}
use Rattle.zr_rules.specs.Steps.{IsSameElsewhere}
use Rattle.zr_reckon.proofs.Counting.{count_as, sum_both, sum_at, only_at, by_index}

-- a device in service is not leaving, and one that is leaving is not in service
pub on_not_leaving : (st : DevState) → is_on st ≡ true → is_leaving st ≡ false
on_not_leaving On is = refl
on_not_leaving Leaving is = absurd (cc)
on_not_leaving Gone is = refl

pub leaving_not_on : (st : DevState) → is_leaving st ≡ true → is_on st ≡ false
leaving_not_on On is = absurd (cc)
leaving_not_on Leaving is = refl
leaving_not_on Gone is = absurd (cc)

pub is_on_state : (st : DevState) → is_on st ≡ true → st ≡ On
is_on_state On is = refl
is_on_state Leaving is = absurd (cc)
is_on_state Gone is = absurd (cc)

pub is_leaving_state : (st : DevState) → is_leaving st ≡ true → st ≡ Leaving
is_leaving_state On is = absurd (cc)
is_leaving_state Leaving is = refl
is_leaving_state Gone is = absurd (cc)

-- a sum over the devices of which one has so much more
pub sum_differs : (old new : Space) (d more : ℕ) → length new.parts.devs ≡ length old.parts.devs → d < length old.parts.devs → (g h : ℕ → ℕ) → ((e : ℕ) → g e ≡ h e + only_at d more e)
    → sum_by g (range_with_len 0 (length old.parts.devs)) ≡ sum_by h (range_with_len 0 (length new.parts.devs)) + more
sum_differs old new d more count known g h each =
    let n = length old.parts.devs in
    let s = ap (λ (k : ℕ). sum_by h (range_with_len 0 k)) count in
    let b = sum_both g h (only_at d more) (range_with_len 0 n) each in
    let one = sum_at d more n known in
    omega (arith, s, b, one)

-- what is left to copy on a device
abbrev pub left_of : Space → ℕ → ℕ
left_of s e = if is_leaving (state_of_dev s.parts.devs e) then sum_by (units_from (frontier s e)) (part_of s.parts.devs e).held else 0

-- all units of a set are from 0 on
pub from_zero : (es : List Extent) → sum_by (units_from 0) es ≡ unit_count es
from_zero [] = refl
from_zero (e ∷ es) =
    let r = from_zero es in
    let m = sum_by-cons (units_from 0) e es in
    grind (arith, nat_tests, r, m)

module _ (old new : Space) (d : ℕ) (c : IsSameElsewhere old new d) where
  row_away : (e : ℕ) → e ≢ d → (part_of new.parts.devs e).row ≡ (part_of old.parts.devs e).row
  row_away e away = (c.others e away).row

  pub state_away : (e : ℕ) → e ≢ d → state_of_dev new.parts.devs e ≡ state_of_dev old.parts.devs e
  state_away e away = ap (λ (r : DevRow). r.state) (c.others e away).row

  -- a number of each device's state, and the one of the device that changes
  pub state_sum : (f : DevState → ℕ) (more : ℕ) → d < length old.parts.devs → f (state_of_dev old.parts.devs d) ≡ f (state_of_dev new.parts.devs d) + more
      → sum_by (λ (p : DevPart). f p.row.state) old.parts.devs ≡ sum_by (λ (p : DevPart). f p.row.state) new.parts.devs + more
  state_sum f more known is =
      let a = by_index (λ (p : DevPart). f p.row.state) old.parts.devs in
      let b = by_index (λ (p : DevPart). f p.row.state) new.parts.devs in
      let s = sum_differs old new d more c.devices known (λ e. f (state_of_dev old.parts.devs e)) (λ e. f (state_of_dev new.parts.devs e)) each in
      omega (arith, a, b, s)
    where
      each : (e : ℕ) → f (state_of_dev old.parts.devs e) ≡ f (state_of_dev new.parts.devs e) + only_at d more e
      each e = ⊎_elim
          (λ here.
          let x = ap (λ (k : ℕ). f (state_of_dev old.parts.devs k)) here in
          let y = ap (λ (k : ℕ). f (state_of_dev new.parts.devs k)) here in
          grind (arith, nat_tests, x, y, is, here))
          (λ away. let x = ap f (state_away e away) in grind (arith, nat_tests, x, away))
          (cases_eq e d)

  -- .. that gets so much more
  pub state_sum_up : (f : DevState → ℕ) (more : ℕ) → d < length old.parts.devs → f (state_of_dev new.parts.devs d) ≡ f (state_of_dev old.parts.devs d) + more
      → sum_by (λ (p : DevPart). f p.row.state) new.parts.devs ≡ sum_by (λ (p : DevPart). f p.row.state) old.parts.devs + more
  state_sum_up f more known is =
      let a = by_index (λ (p : DevPart). f p.row.state) old.parts.devs in
      let b = by_index (λ (p : DevPart). f p.row.state) new.parts.devs in
      let n = length old.parts.devs in
      let s = ap (λ (k : ℕ). sum_by (λ (e : ℕ). f (state_of_dev new.parts.devs e)) (range_with_len 0 k)) c.devices in
      let both = sum_both (λ (e : ℕ). f (state_of_dev new.parts.devs e)) (λ (e : ℕ). f (state_of_dev old.parts.devs e)) (only_at d more) (range_with_len 0 n) each in
      let one = sum_at d more n known in
      omega (arith, a, b, s, both, one)
    where
      each : (e : ℕ) → f (state_of_dev new.parts.devs e) ≡ f (state_of_dev old.parts.devs e) + only_at d more e
      each e = ⊎_elim
          (λ here.
          let x = ap (λ (k : ℕ). f (state_of_dev old.parts.devs k)) here in
          let y = ap (λ (k : ℕ). f (state_of_dev new.parts.devs k)) here in
          grind (arith, nat_tests, x, y, is, here))
          (λ away. let x = ap f (state_away e away) in grind (arith, nat_tests, x, away))
          (cases_eq e d)

  -- the units of the devices, where the one that changes keeps its own
  module _ (same_units : units_of_dev new.parts.devs d ≡ units_of_dev old.parts.devs d) where
    pub units_stay : (e : ℕ) → units_of_dev new.parts.devs e ≡ units_of_dev old.parts.devs e
    units_stay e = ⊎_elim
        (λ here. ap (units_of_dev new.parts.devs) here ∙ (same_units ∙ sym (ap (units_of_dev old.parts.devs) here)))
        (λ away. ap (λ (r : DevRow). r.units) (c.others e away).row)
        (cases_eq e d)

    pub count_stays : (kind : Role → Bool) (e : ℕ) → ((u : ℕ) → kind (role_at new e u) ≡ kind (role_at old e u)) → role_count new kind e ≡ role_count old kind e
    count_stays kind e same =
        ap (λ (n : ℕ). count_below n (λ u. kind (role_at new e u))) (units_stay e)
        ∙ count_as (units_of_dev old.parts.devs e) (λ u. kind (role_at new e u)) (λ u. kind (role_at old e u)) (λ u lt. same u)

  -- a device that stays has as much left to copy
  pub left_stays : (l : IsLawful old) (m : IsLawful new) (e : ℕ) → e ≢ d → (part_of new.parts.devs e).held ≡ (part_of old.parts.devs e).held → left_of new e ≡ left_of old e
  left_stays l m e away held = by_test (is_leaving (state_of_dev old.parts.devs e)) refl (ap is_leaving (state_away e away))
    where
      by_test : (b : Bool) → is_leaving (state_of_dev old.parts.devs e) ≡ b → is_leaving (state_of_dev new.parts.devs e) ≡ is_leaving (state_of_dev old.parts.devs e) → left_of new e ≡ left_of old e
      by_test true is now = rw now rw is (ap₂ (λ (es : List Entry) (xs : List Extent). sum_by (units_from (end_of_last es)) xs) (c.others e away).entries held)
      by_test false is now = rw now rw is refl
