-- What was allocated is there to be given back.
use Rattle.std.proofs.Common.{◌≡◌, ◌⊎◌, inl, inr, false, if◌then◌else◌, ℕ, ◌+◌, ◌≤◌, ◌<◌, Bool, true, List, map, length, refl, ◌∙◌, sym, ap, subst, arith}
use Rattle.std.proofs.lemmas.Bool.Decides.{nat_tests}
use Rattle.std.proofs.lemmas.List.{length-map}
use Rattle.zr_base.specs.declared.space.Dva.{Dva}
use Rattle.zr_base.specs.declared.space.DevPart.{DevPart}
use Rattle.zr_rules.specs.Places.{in_address, units_of_dev}
use Rattle.zr_base.specs.declared.space.DevRow.{DevRow}
use Rattle.zr_rules.specs.Steps.{Commits}
use Rattle.zr_rules.specs.Roles.{Role, is_live_role, aged, cleared}
use Rattle.zr_rules.specs.Roles.Role.{FreshLive, Meta, SavedMeta}
use Rattle.zr_rules.specs.Space.{role_at}
use Rattle.zr_metaslab.specs.Devices.{Devices, units_at}
use Rattle.zr_space.specs.Views.{Kept, kept_of, part_in, space_of, settled, IsSpace, AreTurned}
use Rattle.zr_space.proofs.Commits.{commits}
use Rattle.zr_space.specs.Live.{IsLive}
use Rattle.zr_space.specs.Drops.{IsMeta, HasRole}
use Rattle.zr_space.proofs.Views.{part_is}
use Rattle.zr_rules.specs.Devices.{Devices as Ways, devices_of}
use Rattle.zr_rules.specs.Resolve.{leads_to}
use Rattle.zr_space.proofs.Devs.{same_devices}
use Rattle.zr_space.proofs.Keeps.{most_units}
use Rattle.zr_space.proofs.Leads.{leads_here}
use Rattle.zr_space.specs.declared.whole.Whole.{Whole}

-- the address lies on a device of the pool, within what it has
pub record IsPlaced (whole : Whole) (t : Devices) (devs : List Kept) (a : Dva) : Type 0 where
  pub space : IsSpace whole t devs
  pub known : a.dev < length devs
  pub some : 0 < a.len
  pub within : a.start + a.len ≤ units_at t a.dev

module _ (whole : Whole) (t : Devices) (devs : List Kept) (a : Dva) (h : IsPlaced whole t devs a) where
  there : a.dev < length (space_of whole devs).parts.devs
  there = let k = h.known in let e = length-map devs part_in in omega (arith, k, e)

  kept_within : a.start + a.len ≤ (kept_of devs a.dev).uses.units
  kept_within = let w = h.within in let u = h.space.units a.dev in omega (arith, w, u)

  part_within : a.start + a.len ≤ units_of_dev (map part_in devs) a.dev
  part_within =
      let units : units_of_dev (map part_in devs) a.dev ≡ (kept_of devs a.dev).row.units = ap (λ (p : DevPart). p.row.units) (part_is devs a.dev) in
      let most = most_units (kept_of devs a.dev) (h.space.rows a.dev) in
      let w = kept_within in
      omega (arith, units, most, w)

  pub is_live : ((d u : ℕ) → in_address a d u ≡ true → role_at (space_of whole devs) d u ≡ FreshLive) → IsLive (space_of whole devs) a
  is_live roles = record {
    known = there;
    some = h.some;
    within = part_within;
    used = λ d u leads. ap is_live_role (roles d u (sym (leads_here whole t devs h.space a d u h.some h.known kept_within) ∙ leads));
  }

  pub is_meta : ((d u : ℕ) → in_address a d u ≡ true → role_at (space_of whole devs) d u ≡ Meta) → IsMeta (space_of whole devs) a
  is_meta roles = record {
    known = there;
    some = h.some;
    within = part_within;
    used = inl (λ u is. roles a.dev u is);
  }

-- ---- over a commit

live_settled : (reset : Bool) (r : Role) → is_live_role r ≡ true → is_live_role (if reset then cleared r else aged r) ≡ true
live_settled true r is = grind (arith, nat_tests, is)
live_settled false r is = grind (arith, nat_tests, is)

meta_settled_role : (reset : Bool) → (if reset then cleared Meta else aged Meta) ≡ Meta
meta_settled_role true = refl
meta_settled_role false = refl

saved_settled_role : (reset : Bool) → (if reset then cleared SavedMeta else aged SavedMeta) ≡ SavedMeta
saved_settled_role true = refl
saved_settled_role false = refl

module _ (reset : Bool) (whole : Whole) (s t : Devices) (devs next : List Kept) (a : Dva) (turned : AreTurned (settled reset) devs next) (old : IsSpace whole s devs) (new : IsSpace whole t next) where
  moved : Commits reset (space_of whole devs) (space_of whole next)
  moved = commits reset whole s t devs next turned old new

  same_units : units_of_dev (map part_in next) a.dev ≡ units_of_dev (map part_in devs) a.dev
  same_units = ap (λ (r : DevRow). r.units) (moved.rows a.dev)

  same_ways : devices_of (map part_in next) ≡ devices_of (map part_in devs)
  same_ways = same_devices devs next turned.count (λ d. ap (λ (k : Kept). k.row) (turned.each d)) (λ d. ap (λ (k : Kept). k.moves.entries) (turned.each d))

  pub stays_live : IsLive (space_of whole devs) a → IsLive (space_of whole next) a
  stays_live l = record {
    known = let k = l.known in let e = moved.devices in omega (arith, k, e);
    some = l.some;
    within = let w = l.within in let e = same_units in omega (arith, w, e);
    used = λ d u leads.
        let was = l.used d u (subst (λ (ds : Ways). leads_to ds a d u ≡ true) same_ways leads) in
        ap is_live_role (moved.roles d u) ∙ live_settled reset (role_at (space_of whole devs) d u) was;
  }

  pub stays_meta : IsMeta (space_of whole devs) a → IsMeta (space_of whole next) a
  stays_meta m = record {
    known = let k = m.known in let e = moved.devices in omega (arith, k, e);
    some = m.some;
    within = let w = m.within in let e = same_units in omega (arith, w, e);
    used = again m.used;
  }
    where
      again : HasRole (space_of whole devs) a Meta ⊎ HasRole (space_of whole devs) a SavedMeta → HasRole (space_of whole next) a Meta ⊎ HasRole (space_of whole next) a SavedMeta
      again (inl has) = inl (λ u is. moved.roles a.dev u ∙ (ap (λ r. if reset then cleared r else aged r) (has u is) ∙ meta_settled_role reset))
      again (inr has) = inr (λ u is. moved.roles a.dev u ∙ (ap (λ r. if reset then cleared r else aged r) (has u is) ∙ saved_settled_role reset))
