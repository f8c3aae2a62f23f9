-- What units that were taken for a block are.
use Rattle.std.proofs.Common.{◌≡◌, ℕ, ◌+◌, ◌<◌, ◌≤◌, ◌^◌, true, false, List, [], ◌∷◌, length, Option, Some, refl, sym, ◌∙◌, ap, subst, arith, append-nil}
use Rattle.std.specs.Prelude.{is_some}
use Rattle.std.proofs.lemmas.Bool.Decides.{nat_tests}
use Rattle.zr_base.specs.declared.space.Dva.{Dva}
use Rattle.zr_base.specs.declared.space.DevRow.{DevRow}
use Rattle.zr_base.specs.declared.space.DevState.{DevState}
use Rattle.zr_base.specs.declared.space.DevState.TheVariants.{On, Leaving, Gone}
use Rattle.zr_base.specs.declared.space.Policy.{Policy}
use Rattle.zr_chain.specs.Visits.{as_part}
use Rattle.zr_rules.specs.Places.{Place, is_on, is_gone, part_of, state_of_dev, units_of_dev}
use Rattle.zr_rules.specs.Devices.{state_at}
use Rattle.zr_rules.specs.Resolve.{resolved}
use Rattle.zr_rules.specs.Placement.{IsPlacement}
use Rattle.zr_rules.specs.Columns.{free_of}
use Rattle.zr_rules.specs.Space.{Space}
use Rattle.zr_rules.specs.Frees.{IsSameFrame}
use Rattle.zr_rules.specs.Equation.{devices_in}
use Rattle.zr_space.proofs.Leads.{leads_within}
use Rattle.zr_view.specs.Views.{address_bytes}
use Rattle.zr_view.specs.Runs.{run_bytes, HasDisk}
use Rattle.zr_vdev.specs.declared.kind.Kind.{Kind}
use Rattle.zr_vdev.specs.declared.kind.Kind.TheVariants.{Block, Meta}
use Rattle.zr_vdev.specs.Mounts.{AreMounted}
use Rattle.zr_vdev.specs.Runs.{AreRunsOf, view_of}
use Rattle.zr_vdev.specs.Puts.{Takes}
use Rattle.zr_vdev.proofs.Reading.{have_the_bytes, all-led, first-target}

pub takes_place : (kind : Kind) (policy : Policy) (want : ℕ) (old new : Space) (at : Dva) → Takes kind policy want old new at → IsPlacement (free_of old) policy want at
takes_place Block policy want old new at takes = takes.place
takes_place Meta policy want old new at takes = takes.place

pub takes_frame : (kind : Kind) (policy : Policy) (want : ℕ) (old new : Space) (at : Dva) → Takes kind policy want old new at → IsSameFrame old new
takes_frame Block policy want old new at takes = takes.frame
takes_frame Meta policy want old new at takes = takes.frame

on_is_there : (state : DevState) → is_on state ≡ true → is_gone state ≡ false
on_is_there On on = refl
on_is_there Leaving on = cc
on_is_there Gone on = cc

module _ (kind : Kind) (policy : Policy) (want : ℕ) (old new : Space) (at : Dva) (takes : Takes kind policy want old new at) (within : at.start + at.len ≤ units_of_dev new.parts.devs at.dev) (some : 0 < want) where
  place : IsPlacement (free_of old) policy want at
  place = takes_place kind policy want old new at takes

  frame : IsSameFrame old new
  frame = takes_frame kind policy want old new at takes

  row : (part_of new.parts.devs at.dev).row ≡ (part_of old.parts.devs at.dev).row
  row = (frame.each at.dev).row

  pub known : at.dev < length old.parts.devs
  known = place.known

  pub units : at.len ≡ want
  units = place.len

  serves : is_gone (state_at (devices_in old) at.dev) ≡ false
  serves = on_is_there (state_of_dev old.parts.devs at.dev) place.serves

  pub within_old : at.start + at.len ≤ units_of_dev old.parts.devs at.dev
  within_old = subst (λ (r : DevRow). at.start + at.len ≤ r.units) row within

  module _ (sizes : List ℕ) (slots : List (Option ℕ)) (mounted : AreMounted sizes slots (devices_in old)) where
    pub has_disk : HasDisk sizes slots at.dev (at.start + at.len)
    has_disk =
        let whole = mounted.disks at.dev known serves in
        let fits = whole.fits in
        let le = within_old in
        record { slot = whole.slot; is = whole.is; exists = whole.exists; fits = omega (arith, fits, le) }

    pub begins_low : at.start < 2 ^ 40
    begins_low = let small = mounted.small at.dev in let le = within_old in let u = units in omega (arith, small, le, u, some)

  -- each unit leads to itself
  leads : (k : ℕ) → k < at.len → resolved (devices_in new) at.dev (at.start + k) ≡ Some (at.dev, at.start + k)
  leads k lt =
      let kn = known in let same = frame.devices in
      let on : is_gone (state_at (devices_in new) at.dev) ≡ false = ap (λ (r : DevRow). is_gone r.state) row ∙ serves in
      leads_within (length new.parts.devs) (devices_in new) at.dev (at.start + k) (omega (arith, kn, same)) on (grind (arith, nat_tests, kn, same, within, lt))

  pub own_run : AreRunsOf (devices_in new) at (as_part at ∷ [])
  own_run = record {
    resolves = all-led (devices_in new) at.dev at.start at.len (λ k lt. ap (λ (o : Option Place). is_some o) (leads k lt));
    follow = (refl, (let u = units in omega (arith, u, some)), omega arith);
    targets = λ k lt. first-target (as_part at) [] k k (omega arith) lt ∙ sym (leads k lt);
  }

  pub written_there : (disks : List (List ℕ)) (slots : List (Option ℕ)) (bytes : List ℕ) → run_bytes disks slots (as_part at) ≡ bytes → address_bytes (view_of disks slots new) at ≡ bytes
  written_there disks slots bytes is =
      sym (have_the_bytes slots (devices_in new) at (as_part at ∷ []) own_run disks) ∙ append-nil (run_bytes disks slots (as_part at)) ∙ is
