-- Devices whose units stand on disks, as a store keeps them.
use Rattle.std.proofs.Common.{◌≡◌, ◌≢◌, inl, inr, ℕ, ◌<◌, ◌≤◌, ◌==◌, true, false, List, length, Option, Some, is_some, sym, ◌∙◌, refl, ap, subst, arith}
use Rattle.std.proofs.lemmas.Bool.Decides.{nat_tests}
use Rattle.std.specs.Prelude.{slice_index}
use Rattle.zr_label.specs.Geometry.{unit_at}
use Rattle.zr_base.specs.declared.space.DevRow.{DevRow}
use Rattle.zr_base.specs.declared.space.DevState.{DevState}
use Rattle.zr_base.specs.declared.space.DevState.TheVariants.{On, Leaving, Gone}
use Rattle.zr_chain.proofs.Ways.{cases_bool}
use Rattle.zr_rules.specs.Devices.{Devices, state_at}
use Rattle.zr_rules.specs.Equation.{devices_in}
use Rattle.zr_rules.specs.Places.{is_gone, is_leaving, part_of, state_of_dev}
use Rattle.zr_rules.specs.Space.{Space}
use Rattle.zr_rules.specs.Steps.{Cancels, Finishes, IsSameElsewhere, Leaves}
use Rattle.zr_view.specs.Runs.{HasDisk}
use Rattle.zr_view.specs.Views.{slot_of}
use Rattle.zr_vdev.specs.Mounts.{AreMounted, HaveDisks}

same_slot : (sizes : List ℕ) (slots : List (Option ℕ)) (d n slot : ℕ) (h : HasDisk sizes slots d n) → slot_of slots d ≡ Some slot → h.slot ≡ slot
same_slot sizes slots d n slot h is = let both = sym h.is ∙ is in cc

pub have_disks : (sizes : List ℕ) (slots : List (Option ℕ)) (ds : Devices) → AreMounted sizes slots ds → HaveDisks sizes slots ds
have_disks sizes slots ds m = record {
  few = m.few;
  named = λ d lt there. ap is_some (m.disks d lt there).is;
  exists = λ d slot lt there is. let h = m.disks d lt there in subst (λ (s : ℕ). s < length sizes) (same_slot sizes slots d (ds.row d).units slot h is) h.exists;
  fits = λ d slot lt there is. let h = m.disks d lt there in subst (λ (s : ℕ). unit_at (ds.row d).units ≤ slice_index sizes s) (same_slot sizes slots d (ds.row d).units slot h is) h.fits;
  small = m.small;
  apart = m.apart;
}

-- ---- over removals

-- devices that have as many units, and of which none comes back that was gone, stay mounted
mounted_again : (sizes : List ℕ) (slots : List (Option ℕ)) (ds es : Devices) → es.count ≡ ds.count → ((d : ℕ) → (es.row d).units ≡ (ds.row d).units) → ((d : ℕ) → is_gone (state_at es d) ≡ false → is_gone (state_at ds d) ≡ false)
    → AreMounted sizes slots ds → AreMounted sizes slots es
mounted_again sizes slots ds es count units stays m = record {
  few = let few = m.few in omega (arith, few, count);
  disks = λ d lt there. subst (λ (n : ℕ). HasDisk sizes slots d n) (sym (units d)) (m.disks d (omega (arith, lt, count)) (stays d there));
  small = λ d. let small = m.small d in let u = units d in omega (arith, small, u);
  apart = m.apart;
}

differs : (e d : ℕ) → (e == d) ≡ false → e ≢ d
differs e d is same = grind (arith, nat_tests, is, same)

same_is : (e d : ℕ) → (e == d) ≡ true → d ≡ e
same_is e d is = grind (arith, nat_tests, is)

module _ (sizes : List ℕ) (slots : List (Option ℕ)) (old new : Space) (d : ℕ) (elsewhere : IsSameElsewhere old new d) where
  -- a device of which the row alone changed, and not its units
  row_changed : (part_of new.parts.devs d).row.units ≡ (part_of old.parts.devs d).row.units → (is_gone (state_of_dev new.parts.devs d) ≡ false → is_gone (state_of_dev old.parts.devs d) ≡ false) → AreMounted sizes slots (devices_in old) → AreMounted sizes slots (devices_in new)
  row_changed units stays mounted =
      mounted_again sizes slots (devices_in old) (devices_in new) elsewhere.devices
      (λ e. elim (cases_bool (e == d)) [
        | inl here ↦ subst (λ (x : ℕ). (part_of new.parts.devs x).row.units ≡ (part_of old.parts.devs x).row.units) (same_is e d here) units
        | inr other ↦ ap (λ (r : DevRow). r.units) (elsewhere.others e (differs e d other)).row
      ])
      (λ e there. elim (cases_bool (e == d)) [
        | inl here ↦
            let same = same_is e d here in
            subst (λ (x : ℕ). is_gone (state_of_dev old.parts.devs x) ≡ false) same (stays (subst (λ (x : ℕ). is_gone (state_of_dev new.parts.devs x) ≡ false) (sym same) there))
        | inr other ↦ sym (ap (λ (r : DevRow). is_gone r.state) (elsewhere.others e (differs e d other)).row) ∙ there
      ])
      mounted

pub leaves_mounted : (sizes : List ℕ) (slots : List (Option ℕ)) (old new : Space) (d : ℕ) → is_gone (state_of_dev old.parts.devs d) ≡ false → Leaves old new d → AreMounted sizes slots (devices_in old) → AreMounted sizes slots (devices_in new)
leaves_mounted sizes slots old new d there leaves = row_changed sizes slots old new d leaves.elsewhere (ap (λ (r : DevRow). r.units) leaves.row_is) (λ now. there)

leaving_there : (state : DevState) → is_leaving state ≡ true → is_gone state ≡ false
leaving_there On is = cc
leaving_there Leaving is = refl
leaving_there Gone is = cc

pub cancels_mounted : (sizes : List ℕ) (slots : List (Option ℕ)) (old new : Space) (d : ℕ) → is_leaving (state_of_dev old.parts.devs d) ≡ true → Cancels old new d → AreMounted sizes slots (devices_in old) → AreMounted sizes slots (devices_in new)
cancels_mounted sizes slots old new d leaving cancels = row_changed sizes slots old new d cancels.elsewhere (ap (λ (r : DevRow). r.units) cancels.row_is) (λ now. leaving_there (state_of_dev old.parts.devs d) leaving)

true_false : true ≡ false → ⊥
true_false e = cc

pub finishes_mounted : (sizes : List ℕ) (slots : List (Option ℕ)) (old new : Space) (d txg : ℕ) → Finishes old new d txg → AreMounted sizes slots (devices_in old) → AreMounted sizes slots (devices_in new)
finishes_mounted sizes slots old new d txg finishes =
    row_changed sizes slots old new d finishes.elsewhere (ap (λ (r : DevRow). r.units) finishes.row_is) (λ now. absurd (true_false (sym (ap (λ (r : DevRow). is_gone r.state) finishes.row_is) ∙ now)))
