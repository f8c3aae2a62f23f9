-- An address is live where the held units of its device cover it, and metadata where a metadata set does.
use Rattle.std.proofs.Common.{◌≡◌, ◌⊎◌, inl, inr, ℕ, ◌+◌, ◌-◌, ◌≤◌, ◌<◌, true, false, List, map, length, ◌∙◌, sym, ap, arith}
use Rattle.std.proofs.lemmas.Bool.Decides.{nat_tests}
use Rattle.std.proofs.lemmas.List.{length-map}
use Rattle.zr_base.specs.declared.space.Dva.{Dva}
use Rattle.zr_base.specs.declared.space.DevPart.{DevPart}
use Rattle.zr_base.specs.declared.space.Extent.{Extent}
use Rattle.zr_base.specs.Extents.{in_extent, has_unit, HasAll, HasNone}
use Rattle.zr_rules.specs.Places.{in_address, is_gone, units_of_dev}
use Rattle.zr_rules.specs.Roles.{is_live_role}
use Rattle.zr_rules.specs.Roles.Role.{Meta, SavedMeta}
use Rattle.zr_rules.specs.Space.{role_at}
use Rattle.zr_metaslab.specs.Devices.{Devices, extent_of}
use Rattle.zr_units.specs.Uses.{Uses}
use Rattle.zr_units.specs.Apart.{IsWithin}
use Rattle.zr_space.specs.Views.{Kept, kept_of, part_in, space_of, role_in, IsSpace}
use Rattle.zr_space.specs.Live.{IsLive}
use Rattle.zr_space.specs.Drops.{IsMeta, HasRole}
use Rattle.zr_space.proofs.Views.{part_is}
use Rattle.zr_space.proofs.Roles.{roles_are}
use Rattle.zr_rules.specs.Equation.{devices_in}
use Rattle.zr_space.specs.Paths.{AreInService}
use Rattle.zr_space.proofs.Keeps.{most_units}
use Rattle.zr_space.proofs.Leads.{leads_here, are_on, all_units}
use Rattle.zr_space.proofs.Counts.{held_in, meta_in, saved_in}
use Rattle.zr_space.specs.declared.whole.Whole.{Whole}

pub held_live : (x : Uses) (u : ℕ) → u < x.units → has_unit x.held u ≡ true → has_unit x.kept u ≡ false → has_unit x.copies u ≡ false → is_live_role (role_in x u) ≡ true
held_live x u lt is not uncopied = grind (arith, nat_tests, lt, is, not, uncopied)

pub live_held : (x : Uses) (u : ℕ) → is_live_role (role_in x u) ≡ true → has_unit x.held u ≡ true
live_held x u is = grind (arith, nat_tests, is)

pub live_unkept : (x : Uses) (u : ℕ) → is_live_role (role_in x u) ≡ true → has_unit x.kept u ≡ false
live_unkept x u is = grind (arith, nat_tests, is)

pub live_uncopied : (x : Uses) (u : ℕ) → is_live_role (role_in x u) ≡ true → has_unit x.copies u ≡ false
live_uncopied x u is = grind (arith, nat_tests, is)

meta_unit : (x : Uses) (u : ℕ) → role_in x u ≡ Meta → has_unit x.meta u ≡ true
meta_unit x u is = grind (arith, nat_tests, is)

saved_unit : (x : Uses) (u : ℕ) → role_in x u ≡ SavedMeta → has_unit x.saved u ≡ true
saved_unit x u is = grind (arith, nat_tests, is)

-- a set within so many units that has all of an extent ends the extent there
ends_within : (es : List Extent) (a : Dva) (n : ℕ) → 0 < a.len → IsWithin es n → HasAll es (extent_of a) → a.start + a.len ≤ n
ends_within es a n some within all =
    let last : in_extent (extent_of a) (a.start + a.len - 1) ≡ true = grind (arith, nat_tests, some) in
    let lt = within (a.start + a.len - 1) (all (a.start + a.len - 1) last) in
    omega (arith, lt, some)

module _ (whole : Whole) (t : Devices) (devs : List Kept) (a : Dva) (space : IsSpace whole t devs) (known : a.dev < length devs) (some : 0 < a.len) where
  there : a.dev < length (space_of whole devs).parts.devs
  there = let e = length-map devs part_in in omega (arith, known, e)

  units : units_of_dev (map part_in devs) a.dev ≡ (kept_of devs a.dev).row.units
  units = ap (λ (p : DevPart). p.row.units) (part_is devs a.dev)

  roles : (u : ℕ) → role_at (space_of whole devs) a.dev u ≡ role_in (kept_of devs a.dev).uses u
  roles u = roles_are whole devs a.dev u space

  below : a.start + a.len ≤ (kept_of devs a.dev).uses.units → a.start + a.len ≤ units_of_dev (map part_in devs) a.dev
  below w = let u = units in let m = most_units (kept_of devs a.dev) (space.rows a.dev) in omega (arith, u, m, w)

  above : AreInService (devices_in (space_of whole devs)) → a.start + a.len ≤ units_of_dev (map part_in devs) a.dev → a.start + a.len ≤ (kept_of devs a.dev).uses.units
  above service w = let u = units in let m = all_units (kept_of devs a.dev) (space.rows a.dev) (ap is_gone (are_on whole devs service a.dev)) in omega (arith, u, m, w)

  pub live_covered : HasAll (kept_of devs a.dev).uses.held (extent_of a) → HasNone (kept_of devs a.dev).uses.kept (extent_of a) → HasNone (kept_of devs a.dev).uses.copies (extent_of a) → IsLive (space_of whole devs) a
  live_covered all unkept uncopied =
      let x = (kept_of devs a.dev).uses in
      let acc = space.account a.dev in
      let within = ends_within x.held a x.units some (held_in _ _ x acc) all in
      record {
        known = there;
        some = some;
        within = below within;
        used = λ d u leads.
            let at : in_address a d u ≡ true = sym (leads_here whole t devs space a d u some known within) ∙ leads in
            let dev : d ≡ a.dev = grind (arith, nat_tests, at) in
            let inside : in_extent (extent_of a) u ≡ true = grind (arith, nat_tests, at) in
            let held = all u inside in
            let lt : u < x.units = held_in _ _ x acc u held in
            ap (λ (e : ℕ). is_live_role (role_at (space_of whole devs) e u)) dev ∙ (ap is_live_role (roles u) ∙ held_live x u lt held (unkept u inside) (uncopied u inside));
      }

  pub covers_live : AreInService (devices_in (space_of whole devs)) → IsLive (space_of whole devs) a → HasAll (kept_of devs a.dev).uses.held (extent_of a)
  covers_live service l u is =
      let at : in_address a a.dev u ≡ true = grind (arith, nat_tests, is) in
      let used = l.used a.dev u (leads_here whole t devs space a a.dev u some known (above service l.within) ∙ at) in
      live_held (kept_of devs a.dev).uses u (sym (ap is_live_role (roles u)) ∙ used)

  pub live_apart : AreInService (devices_in (space_of whole devs)) → IsLive (space_of whole devs) a → HasNone (kept_of devs a.dev).uses.kept (extent_of a)
  live_apart service l u is =
      let at : in_address a a.dev u ≡ true = grind (arith, nat_tests, is) in
      let used = l.used a.dev u (leads_here whole t devs space a a.dev u some known (above service l.within) ∙ at) in
      live_unkept (kept_of devs a.dev).uses u (sym (ap is_live_role (roles u)) ∙ used)

  pub live_apart_copies : AreInService (devices_in (space_of whole devs)) → IsLive (space_of whole devs) a → HasNone (kept_of devs a.dev).uses.copies (extent_of a)
  live_apart_copies service l u is =
      let at : in_address a a.dev u ≡ true = grind (arith, nat_tests, is) in
      let used = l.used a.dev u (leads_here whole t devs space a a.dev u some known (above service l.within) ∙ at) in
      live_uncopied (kept_of devs a.dev).uses u (sym (ap is_live_role (roles u)) ∙ used)

  pub meta_covered : HasAll (kept_of devs a.dev).uses.meta (extent_of a) → IsMeta (space_of whole devs) a
  meta_covered all =
      let x = (kept_of devs a.dev).uses in
      let acc = space.account a.dev in
      let within = ends_within x.meta a x.units some (meta_in _ _ x acc) all in
      record {
        known = there;
        some = some;
        within = below within;
        used = inl (λ u at.
            let inside : in_extent (extent_of a) u ≡ true = grind (arith, nat_tests, at) in
            let has = all u inside in
            let once = acc.once u in
            let lt : u < x.units = meta_in _ _ x acc u has in
            let is : role_in x u ≡ Meta = grind (arith, nat_tests, once, lt, has) in
            roles u ∙ is);
      }

  pub saved_covered : HasAll (kept_of devs a.dev).uses.saved (extent_of a) → IsMeta (space_of whole devs) a
  saved_covered all =
      let x = (kept_of devs a.dev).uses in
      let acc = space.account a.dev in
      let within = ends_within x.saved a x.units some (saved_in _ _ x acc) all in
      record {
        known = there;
        some = some;
        within = below within;
        used = inr (λ u at.
            let inside : in_extent (extent_of a) u ≡ true = grind (arith, nat_tests, at) in
            let has = all u inside in
            let once = acc.once u in
            let lt : u < x.units = saved_in _ _ x acc u has in
            let is : role_in x u ≡ SavedMeta = grind (arith, nat_tests, once, lt, has) in
            roles u ∙ is);
      }

  covered_of : HasRole (space_of whole devs) a Meta ⊎ HasRole (space_of whole devs) a SavedMeta → HasAll (kept_of devs a.dev).uses.meta (extent_of a) ⊎ HasAll (kept_of devs a.dev).uses.saved (extent_of a)
  covered_of (inl has) = inl (λ u is. let at : in_address a a.dev u ≡ true = grind (arith, nat_tests, is) in meta_unit (kept_of devs a.dev).uses u (sym (roles u) ∙ has u at))
  covered_of (inr has) = inr (λ u is. let at : in_address a a.dev u ≡ true = grind (arith, nat_tests, is) in saved_unit (kept_of devs a.dev).uses u (sym (roles u) ∙ has u at))

  pub covers_meta : IsMeta (space_of whole devs) a → HasAll (kept_of devs a.dev).uses.meta (extent_of a) ⊎ HasAll (kept_of devs a.dev).uses.saved (extent_of a)
  covers_meta m = covered_of m.used
