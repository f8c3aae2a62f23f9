-- The devices of a root before anything is known of them read as its bare devices do.
use Rattle.std.proofs.Common.{◌≡◌, ℕ, ◌<◌, ◌≤◌, ◌^◌, List, [], length, map, get_or, Option, refl, sym, ◌∙◌, ap, subst, arith}
use Rattle.std.specs.Prelude.{All, false}
use Rattle.std.proofs.lemmas.List.{length-map, get_or_default}
use Rattle.zr_base.specs.declared.space.DevPart.{DevPart}
use Rattle.zr_base.specs.declared.space.DevRow.{DevRow}
use Rattle.zr_base.specs.declared.space.DevState.{DevState}
use Rattle.zr_base.specs.declared.space.DevState.TheVariants.{On, Leaving, Gone}
use Rattle.zr_base.specs.declared.space.SpaceParts.{SpaceParts}
use Rattle.zr_image.specs.Current.{row_at}
use Rattle.zr_image.specs.Reading.{bare_devices, store_of}
use Rattle.zr_image.specs.Roots.{rows_of}
use Rattle.zr_judge.proofs.Unused.{part_at}
use Rattle.zr_judge.specs.Blank.{blank_part, blank_parts, there_or_gone}
use Rattle.zr_label.specs.Blocks.{IsUber, no_row}
use Rattle.zr_label.specs.declared.root.Uber.{Uber}
use Rattle.zr_rules.specs.Devices.{Devices, devices_of, state_at}
use Rattle.zr_rules.specs.Equation.{devices_in}
use Rattle.zr_rules.specs.Places.{is_gone, part_of}
use Rattle.zr_rules.specs.Space.{Space}
use Rattle.zr_store.specs.Store.{Stored}
use Rattle.zr_vdev.specs.Mounts.{AreMounted}
use Rattle.zr_vdev.specs.Runs.{view_of}
use Rattle.zr_view.specs.Runs.{HasDisk}
use Rattle.zr_roots.proofs.Alike.{store_alike}
use Rattle.zr_roots.proofs.Rows.{count_few, row_of, row_units, small_row, taken_is}
use Rattle.zr_roots.specs.Devices.{HasItsDisks}
use Rattle.zr_roots.specs.Standing.{image_of}

gone_same : (s : DevState) → is_gone (there_or_gone s) ≡ is_gone s
gone_same On = refl
gone_same Leaving = refl
gone_same Gone = refl

module _ (u : Uber) (is : IsUber u) where
  pub few_rows : length (rows_of u) ≤ 32
  few_rows = let n = taken_is u is in let few = count_few u is in omega (arith, n, few)

  pub small_rows : All (λ (r : DevRow). r.units < 2 ^ 40) (rows_of u)
  small_rows i e lt =
      let n = taken_is u is in
      let small = row_units u is i (omega (arith, lt, n)) in
      let same = ap (λ (r : DevRow). r.units) (get_or_default (rows_of u) i no_row e lt ∙ refl) in
      let row = ap (λ (r : DevRow). r.units) (row_of u is i) in
      omega (arith, small, same, row)

  abbrev devs : List DevPart
  devs = map blank_part (rows_of u)

  part : (d : ℕ) → part_of devs d ≡ blank_part (row_at u d)
  part d = part_at u.version (rows_of u) few_rows small_rows d ∙ ap blank_part (row_of u is d)

  count : length devs ≡ u.count
  count = length-map (rows_of u) blank_part ∙ taken_is u is

  abbrev here : Devices
  here = devices_of devs

  gone : (d : ℕ) → is_gone (state_at here d) ≡ is_gone (state_at (bare_devices u) d)
  gone d = ap (λ (p : DevPart). is_gone p.row.state) (part d) ∙ gone_same (row_at u d).state

  units : (d : ℕ) → (here.row d).units ≡ (row_at u d).units
  units d = ap (λ (p : DevPart). p.row.units) (part d)

  module _ (s : Space) (parts : s.parts ≡ blank_parts u.version (rows_of u)) where
    devices : devices_in s ≡ here
    devices = ap (λ (ps : SpaceParts). devices_of ps.devs) parts

    pub blank_image : (disks : List (List ℕ)) (slots : List (Option ℕ)) → store_of (view_of disks slots s) ≡ image_of disks slots u
    blank_image disks slots =
        ap (λ (ds : Devices). store_of (record { disks = disks; slots = slots; devices = ds })) devices
        ∙ store_alike disks slots here (bare_devices u) count gone units (λ d. ap (λ (p : DevPart). p.entries) (part d))

    pub blank_mounted : (sizes : List ℕ) (slots : List (Option ℕ)) → HasItsDisks sizes slots u → AreMounted sizes slots (devices_in s)
    blank_mounted sizes slots h = subst (AreMounted sizes slots) (sym devices) (record {
      few = let n = count in let few = count_few u is in omega (arith, n, few);
      disks = λ d lt there. subst (HasDisk sizes slots d) (sym (units d)) (h.disks d (let n = count in omega (arith, n, lt)) (sym (gone d) ∙ there));
      small = λ d. let same = units d in let small = small_row u is d in omega (arith, same, small);
      apart = h.apart;
    })
