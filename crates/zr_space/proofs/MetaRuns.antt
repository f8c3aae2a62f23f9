-- The current root's metadata on a device, and what is left of it. The copies on a device.
use Rattle.std.proofs.Common.{◌≡◌, ℕ, zero, suc, ◌+◌, ◌≤◌, ◌<◌, Bool, true, false, nat_lt, List, [], ◌∷◌, length, map, sum_by, refl, ◌∙◌, sym, ap, subst, arith}
use Rattle.std.proofs.Math.ListN.{set}
use Rattle.std.proofs.lemmas.Bool.Decides.{nat_tests}
use Rattle.std.proofs.lemmas.List.Sums.{sum_by-append}
use Rattle.zr_base.specs.declared.space.Dva.{Dva}
use Rattle.zr_base.specs.declared.space.DevPart.{DevPart}
use Rattle.zr_base.specs.declared.space.Extent.{Extent}
use Rattle.zr_base.specs.Extents.{in_extent, has_unit, unit_count, HasAll}
use Rattle.zr_rules.specs.Columns.{late_meta_units, units_on}
use Rattle.zr_rules.specs.Places.{address_hits, in_address, part_of}
use Rattle.zr_rules.specs.Roles.{is_copy_role, is_meta_role}
use Rattle.zr_rules.specs.Roles.Role.{Meta}
use Rattle.zr_rules.specs.Space.{Space, role_at}
use Rattle.zr_metaslab.specs.Devices.{Devices, extent_of}
use Rattle.zr_units.specs.Uses.{Uses}
use Rattle.zr_units.specs.Changes.{DropsMeta}
use Rattle.zr_space.specs.Views.{Kept, kept_of, part_in, space_of, role_in, IsSpace, addresses, meta_from}
use Rattle.zr_space.specs.Drops.{HasRole}
use Rattle.zr_space.specs.Metadata.{HasNoMeta, IsMetaOn, meta_left, turning_on}
use Rattle.zr_space.proofs.Counts.{held_in, meta_in}
use Rattle.zr_space.proofs.Frames.{saved_set}
use Rattle.zr_space.proofs.InUse.{meta_covered}
use Rattle.zr_space.proofs.Roles.{roles_are}
use Rattle.zr_space.proofs.SavedRuns.{count_addresses}
use Rattle.zr_space.proofs.Totalling.{late_meta_is, units_at}
use Rattle.zr_space.proofs.Views.{part_is}
use Rattle.zr_space.specs.declared.whole.Whole.{Whole}

-- ---- what is left

left_from : (i : ℕ) (devs : List Kept) (d : ℕ) (x : Kept) → d < length devs
    → sum_by (λ (a : Dva). a.len) (meta_from i (set devs d x)) + unit_count (kept_of devs d).uses.meta ≡ sum_by (λ (a : Dva). a.len) (meta_from i devs) + unit_count x.uses.meta
left_from i [] d x lt = absurd (omega (arith, lt))
left_from i (k ∷ ks) zero x lt =
    let a = sum_by-append (λ (b : Dva). b.len) (addresses i x.uses.meta) (meta_from (i + 1) ks) in
    let b = sum_by-append (λ (b : Dva). b.len) (addresses i k.uses.meta) (meta_from (i + 1) ks) in
    let c = count_addresses i x.uses.meta in
    let e = count_addresses i k.uses.meta in
    omega (arith, a, b, c, e)
left_from i (k ∷ ks) (suc d) x lt =
    let a = sum_by-append (λ (b : Dva). b.len) (addresses i k.uses.meta) (meta_from (i + 1) (set ks d x)) in
    let b = sum_by-append (λ (b : Dva). b.len) (addresses i k.uses.meta) (meta_from (i + 1) ks) in
    let r = left_from (i + 1) ks d x (omega (arith, lt)) in
    omega (arith, a, b, r)

-- less is left once a run is given back
pub less_meta : (whole : Whole) (devs : List Kept) (a : Dva) (k : Kept) (y : Uses) → a.dev < length devs → 0 < a.len → k ≡ kept_of devs a.dev → DropsMeta k.uses y (extent_of a)
    → meta_left (space_of whole (set devs a.dev (record k { uses = y }))) < meta_left (space_of whole devs)
less_meta whole devs a k y there some is d =
    let l = left_from 0 devs a.dev (record k { uses = y }) there in
    let c = d.meta.count in
    let e = ap (λ (z : Kept). unit_count z.uses.meta) is in
    omega (arith, l, c, e, some)

-- the saved root's metadata is the same
pub same_saved : (whole : Whole) (devs : List Kept) (a : Dva) (k : Kept) (y : Uses) → k ≡ kept_of devs a.dev → DropsMeta k.uses y (extent_of a)
    → (space_of whole (set devs a.dev (record k { uses = y }))).saved_meta ≡ (space_of whole devs).saved_meta
same_saved whole devs a k y is d = saved_set 0 a.dev devs (record k { uses = y }) (ap (λ (z : Uses). z.saved) d.others ∙ ap (λ (z : Kept). z.uses.saved) is)

-- ---- the lowest run

meta_unit : (x : Uses) (u : ℕ) → role_in x u ≡ Meta → has_unit x.meta u ≡ true
meta_unit x u is = grind (arith, nat_tests, is)

-- the set has all units of such an address
pub meta_covers : (whole : Whole) (s : Devices) (devs : List Kept) (a : Dva) (k : Kept) → IsSpace whole s devs → k ≡ kept_of devs a.dev → HasRole (space_of whole devs) a Meta → HasAll k.uses.meta (extent_of a)
meta_covers whole s devs a k space is has = λ u at.
    let on : in_address a a.dev u ≡ true = grind (arith, nat_tests, at) in
    meta_unit k.uses u (ap (λ (x : Kept). role_in x.uses u) is ∙ (sym (roles_are whole devs a.dev u space) ∙ has u on))

-- a front of the first extent of the set is such an address
pub front_meta : (whole : Whole) (s : Devices) (devs : List Kept) (d : ℕ) (a : Dva) (e : Extent) (es : List Extent) → IsSpace whole s devs → a.dev ≡ d → d < length devs → (kept_of devs d).uses.meta ≡ e ∷ es
    → a.start ≡ e.start → 0 < a.len → a.len ≤ e.len → IsMetaOn (space_of whole devs) d a
front_meta whole s devs d a e es space on lt first start some most =
    let there : a.dev < length devs = omega (arith, on, lt) in
    let is : (kept_of devs a.dev).uses.meta ≡ e ∷ es = ap (λ (i : ℕ). (kept_of devs i).uses.meta) on ∙ first in
    let x = (kept_of devs a.dev).uses in
    let all : HasAll x.meta (extent_of a) = λ u at.
    let first : in_extent e u ≡ true = grind (arith, nat_tests, at, start, most) in
    let has : has_unit (e ∷ es) u ≡ true = grind (arith, nat_tests, first) in
    subst (λ (ls : List Extent). has_unit ls u ≡ true) (sym is) has in
    record {
      is = meta_covered whole s devs a space there some all;
      dev = on;
      current = λ u at.
          let inside : in_extent (extent_of a) u ≡ true = grind (arith, nat_tests, at) in
          let has = all u inside in
          let acc = space.account a.dev in
          let once = acc.once u in
          let lt : u < x.units = meta_in _ _ x acc u has in
          let role : role_in x u ≡ Meta = grind (arith, nat_tests, once, lt, has) in
          roles_are whole devs a.dev u space ∙ role;
    }

no_unit : (es : List Extent) (u : ℕ) → es ≡ [] → has_unit es u ≡ false
no_unit es u is = ap (λ (ls : List Extent). has_unit ls u) is

false_true : false ≡ true → ⊥
false_true e = cc

-- a device whose set has no extent has none
pub no_meta : (whole : Whole) (s : Devices) (devs : List Kept) (d : ℕ) → IsSpace whole s devs → (kept_of devs d).uses.meta ≡ [] → HasNoMeta (space_of whole devs) d
no_meta whole s devs d space none u is =
    let role : role_in (kept_of devs d).uses u ≡ Meta = sym (roles_are whole devs d u space) ∙ is in
    false_true (sym (no_unit (kept_of devs d).uses.meta u none) ∙ meta_unit (kept_of devs d).uses u role)

-- and of neither root where none is saved
pub no_metadata : (s : Space) (d u : ℕ) → s.saved_meta ≡ [] → HasNoMeta s d → is_meta_role (role_at s d u) ≡ false
unfolding role_at
no_metadata s d u unsaved none =
    let unhit : nat_lt 0 (address_hits s.saved_meta d u) ≡ false = ap (λ (l : List Dva). nat_lt 0 (address_hits l d u)) unsaved in
    let other = none u in
    grind (arith, nat_tests, unhit, other)

-- ---- the copies

copy_unit : (x : Uses) (u : ℕ) → (has_unit x.copies u ≡ true → has_unit x.held u ≡ true) → (has_unit x.copies u ≡ true → has_unit x.kept u ≡ false) → (has_unit x.held u ≡ true → u < x.units)
    → has_unit x.copies u ≡ is_copy_role (role_in x u)
copy_unit x u held unkept within = by (has_unit x.copies u) refl
  where
    by : (b : Bool) → has_unit x.copies u ≡ b → has_unit x.copies u ≡ is_copy_role (role_in x u)
    by true is = let h = held is in let k = unkept is in let lt = within h in grind (arith, nat_tests, is, h, k, lt)
    by false is = grind (arith, nat_tests, is)

pub copies_are : (whole : Whole) (s : Devices) (devs : List Kept) (d u : ℕ) → IsSpace whole s devs → has_unit (kept_of devs d).uses.copies u ≡ is_copy_role (role_at (space_of whole devs) d u)
copies_are whole s devs d u space =
    let x = (kept_of devs d).uses in
    let acc = space.account d in
    copy_unit x u (acc.copying.held u) (acc.copying.unkept u) (held_in _ _ x acc u) ∙ sym (ap is_copy_role (roles_are whole devs d u space))

-- ---- what gives way

pub turning_is : (whole : Whole) (devs : List Kept) (d : ℕ) → turning_on (space_of whole devs) d ≡ unit_count (kept_of devs d).uses.meta + unit_count (kept_of devs d).uses.late1.meta + unit_count (kept_of devs d).uses.late2.meta
turning_is whole devs d =
    let current : units_on (meta_from 0 devs) d ≡ unit_count (kept_of devs d).uses.meta = let z : d ≡ 0 + d = omega arith in ap (λ (k : ℕ). units_on (meta_from 0 devs) k) z ∙ units_at 0 d devs in
    let first : late_meta_units (part_of (map part_in devs) d).late1 ≡ unit_count (kept_of devs d).uses.late1.meta = ap (λ (p : DevPart). late_meta_units p.late1) (part_is devs d) ∙ late_meta_is (kept_of devs d).uses.late1 in
    let second : late_meta_units (part_of (map part_in devs) d).late2 ≡ unit_count (kept_of devs d).uses.late2.meta = ap (λ (p : DevPart). late_meta_units p.late2) (part_is devs d) ∙ late_meta_is (kept_of devs d).uses.late2 in
    omega (arith, current, first, second)
