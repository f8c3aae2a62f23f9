-- The copies of the units of a device that is leaving, through the steps of a commit.
use Rattle.std.proofs.Common.{◌≡◌, ◌∙◌, ℕ, ◌<◌, ◌≤◌, Bool, true, false, not, ◌&&◌, nat_lt, List, length, Option, Result, refl, sym, ap, subst, arith}
use Rattle.std.proofs.lemmas.Bool.Decides.{nat_tests}
use Rattle.zr_base.specs.declared.space.DevPart.{DevPart}
use Rattle.zr_label.specs.Blocks.{IsUber}
use Rattle.zr_label.specs.declared.root.Uber.{Uber}
use Rattle.zr_rules.specs.Equation.{devices_in}
use Rattle.zr_rules.specs.Places.{is_gone, is_leaving, state_of_dev, units_of_dev}
use Rattle.zr_rules.specs.Roles.{is_copy_role}
use Rattle.zr_rules.specs.Roles.Role.{Absent}
use Rattle.zr_rules.specs.Space.{Space, has_place, role_at}
use Rattle.zr_scan.specs.declared.error.ScanErr.{ScanErr}
use Rattle.zr_shelf.specs.Moments.{World}
use Rattle.zr_slots.specs.Phases.{Publishes}
use Rattle.zr_space.proofs.Paths.{part_past}
use Rattle.zr_vdev.specs.Alike.{CopiesStand}
use Rattle.zr_view.specs.Views.{slot_of, unit_bytes}
use Rattle.zr_sync.specs.Copies.{KeepsCopies}
use Rattle.zr_sync.specs.Pools.{IsOpen}
use Rattle.zr_sync.specs.declared.open.OpenPool.{OpenPool}
use Rattle.zr_sync.proofs.Holding.{below_labels}
use Rattle.zr_sync.proofs.Rings.{published_units}

-- ---- blocks

-- what a step keeps over a table, it keeps over the same table
pub step_copies : (a b : World) (x y : OpenPool) → y.table.slots ≡ x.table.slots → (CopiesStand a.now.seen x.table.slots x.space → CopiesStand b.now.seen x.table.slots y.space) → KeepsCopies a b x y
step_copies a b x y same keeps had = subst (λ (slots : List (Option ℕ)). CopiesStand b.now.seen slots y.space) (sym same) (keeps had)

-- ---- where a copy is, and what it is of

false_true : false ≡ true → ⊥
false_true e = cc

-- a device that is leaving is there
leaving_known : (parts : List DevPart) (d : ℕ) → is_leaving (state_of_dev parts d) ≡ true → d < length parts
leaving_known parts d is = by (nat_lt d (length parts)) refl
  where
    by : (b : Bool) → nat_lt d (length parts) ≡ b → d < length parts
    by true lt = grind (arith, nat_tests, lt)
    by false past =
        let le : length parts ≤ d = grind (arith, nat_tests, past) in
        absurd (false_true (sym (ap (λ (p : DevPart). is_leaving p.row.state) (part_past parts d le)) ∙ is))

has_device : (gone : Bool) (d n u m : ℕ) → (nat_lt d n && (not gone && nat_lt u m)) ≡ true → d < n
has_device gone d n u m is = grind (arith, nat_tests, is)

has_unit_of : (gone : Bool) (d n u m : ℕ) → (nat_lt d n && (not gone && nat_lt u m)) ≡ true → u < m
has_unit_of gone d n u m is = grind (arith, nat_tests, is)

absent : (s : Space) (d u : ℕ) → has_place s d u ≡ false → role_at s d u ≡ Absent
unfolding role_at
absent s d u none = rw none refl

-- a copy is in a place that is there
copy_place : (s : Space) (d u : ℕ) → is_copy_role (role_at s d u) ≡ true → has_place s d u ≡ true
copy_place s d u is = by (has_place s d u) refl
  where
    by : (b : Bool) → has_place s d u ≡ b → has_place s d u ≡ true
    by true has = has
    by false none = absurd (false_true (sym (ap is_copy_role (absent s d u none)) ∙ is))

copy_known : (s : Space) (d u : ℕ) → is_copy_role (role_at s d u) ≡ true → d < length s.parts.devs
copy_known s d u is = has_device (is_gone (state_of_dev s.parts.devs d)) d (length s.parts.devs) u (units_of_dev s.parts.devs d) (copy_place s d u is)

copy_within : (s : Space) (d u : ℕ) → is_copy_role (role_at s d u) ≡ true → u < units_of_dev s.parts.devs d
copy_within s d u is = has_unit_of (is_gone (state_of_dev s.parts.devs d)) d (length s.parts.devs) u (units_of_dev s.parts.devs d) (copy_place s d u is)

-- ---- a root

-- a root that is published leaves the copies and their units
pub published_copies : (sizes both all : List ℕ) (u : Uber) (r : Result (Unit {0}) ScanErr) (a b : World) (pool : OpenPool) → IsOpen sizes pool → IsUber u → Publishes sizes both all u r a b → KeepsCopies a b pool pool
published_copies sizes both all u r a b pool o lawful published had d unit p at =
    let space = pool.space in
    let slots = pool.table.slots in
    let same : (e v : ℕ) → e < length space.parts.devs → v < units_of_dev space.parts.devs e → unit_bytes b.now.seen (slot_of slots e) v ≡ unit_bytes a.now.seen (slot_of slots e) v =
    published_units sizes slots (devices_in space) (below_labels sizes pool o) u lawful both all r a b published in
    same p.0 p.1 (copy_known space p.0 p.1 at.copy) (copy_within space p.0 p.1 at.copy) ∙ (had d unit p at ∙ sym (same d unit (leaving_known space.parts.devs d at.leaving) at.within))
