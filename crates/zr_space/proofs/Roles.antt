-- The role of a unit, from the sets of its device.
use Rattle.std.proofs.Common.{◌≡◌, ℕ, zero, suc, ◌<◌, Bool, true, false, nat_lt, List, [], ◌∷◌, map, length, refl, ◌∙◌, ap, arith}
use Rattle.std.proofs.lemmas.List.{length-map}
use Rattle.std.proofs.lemmas.Bool.Decides.{nat_tests}
use Rattle.zr_base.specs.declared.space.DevPart.{DevPart}
use Rattle.zr_base.specs.Extents.{has_unit}
use Rattle.zr_rules.specs.Places.{one_if, part_of, is_gone, address_hits}
use Rattle.zr_rules.specs.Space.{OpenSets, role_at, copy_hits, has_late, has_place, opened_of}
use Rattle.zr_metaslab.specs.Devices.{Devices as Slabs}
use Rattle.zr_space.specs.Views.{Kept, kept_of, part_in, space_of, role_in, IsSpace}
use Rattle.zr_space.proofs.Sums.{some_in, late_blocks_are, late_meta_are}
use Rattle.zr_space.proofs.Views.{part_is, opened_is, meta_is, saved_is}
use Rattle.zr_space.specs.declared.whole.Whole.{Whole}

past_units : (devs : List Kept) (d u : ℕ) → u < (kept_of devs d).uses.units → d < length devs
past_units [] zero u h = absurd (omega (arith, h))
past_units [] (suc d) u h = absurd (omega (arith, h))
past_units (x ∷ xs) zero u h = omega arith
past_units (x ∷ xs) (suc d) u h = let r = past_units xs d u h in omega (arith, r)

-- a unit of a device that is not gone is there
pub place_is : {slabs : Slabs} (whole : Whole) (devs : List Kept) (d u : ℕ) → IsSpace whole slabs devs → has_place (space_of whole devs) d u ≡ nat_lt u (kept_of devs d).uses.units
place_is whole devs d u sp =
    let part = part_is devs d in
    let count : length (map part_in devs) ≡ length devs = length-map devs part_in in
    let gone : is_gone (part_of (map part_in devs) d).row.state ≡ is_gone (kept_of devs d).row.state = ap (λ (p : DevPart). is_gone p.row.state) part in
    let units : (part_of (map part_in devs) d).row.units ≡ (kept_of devs d).row.units = ap (λ (p : DevPart). p.row.units) part in
    grind (arith, nat_tests, count, gone, units, sp.rows d, past_units devs d u)

one_is : (b : Bool) → nat_lt 0 (one_if b) ≡ b
one_is true = refl
one_is false = refl

pub roles_are : {slabs : Slabs} (whole : Whole) (devs : List Kept) (d u : ℕ) → IsSpace whole slabs devs → role_at (space_of whole devs) d u ≡ role_in (kept_of devs d).uses u
unfolding role_at
roles_are whole devs d u sp =
    let s = space_of whole devs in
    let part = part_is devs d in
    let opened = opened_is whole devs d in
    let place = place_is whole devs d u sp in
    let held : has_unit (part_of s.parts.devs d).held u ≡ has_unit (kept_of devs d).uses.held u = ap (λ (p : DevPart). has_unit p.held u) part in
    let kept : has_unit (part_of s.parts.devs d).kept u ≡ has_unit (kept_of devs d).uses.kept u = ap (λ (p : DevPart). has_unit p.kept u) part in
    let copies : nat_lt 0 (copy_hits s.parts.devs d u) ≡ has_unit (kept_of devs d).uses.copies u = ap (λ n. nat_lt 0 n) (sp.copies d u) ∙ one_is (has_unit (kept_of devs d).uses.copies u) in
    let born : has_unit (opened_of s d).born u ≡ has_unit (kept_of devs d).uses.born u = ap (λ (o : OpenSets). has_unit o.born u) opened in
    let deferred : has_unit (opened_of s d).deferred u ≡ has_unit (kept_of devs d).uses.freed.blocks u = ap (λ (o : OpenSets). has_unit o.deferred u) opened in
    let dropped : has_unit (opened_of s d).dropped u ≡ has_unit (kept_of devs d).uses.freed.meta u = ap (λ (o : OpenSets). has_unit o.dropped u) opened in
    let late1b : has_late false (part_of s.parts.devs d).late1 u ≡ has_unit (kept_of devs d).uses.late1.blocks u = ap (λ (p : DevPart). has_late false p.late1 u) part ∙ late_blocks_are (kept_of devs d).uses.late1 u in
    let late1m : has_late true (part_of s.parts.devs d).late1 u ≡ has_unit (kept_of devs d).uses.late1.meta u = ap (λ (p : DevPart). has_late true p.late1 u) part ∙ late_meta_are (kept_of devs d).uses.late1 u in
    let late2b : has_late false (part_of s.parts.devs d).late2 u ≡ has_unit (kept_of devs d).uses.late2.blocks u = ap (λ (p : DevPart). has_late false p.late2 u) part ∙ late_blocks_are (kept_of devs d).uses.late2 u in
    let late2m : has_late true (part_of s.parts.devs d).late2 u ≡ has_unit (kept_of devs d).uses.late2.meta u = ap (λ (p : DevPart). has_late true p.late2 u) part ∙ late_meta_are (kept_of devs d).uses.late2 u in
    let meta : nat_lt 0 (address_hits s.meta d u) ≡ has_unit (kept_of devs d).uses.meta u = ap (λ n. nat_lt 0 n) (meta_is devs d u) ∙ some_in (kept_of devs d).uses.meta u in
    let saved : nat_lt 0 (address_hits s.saved_meta d u) ≡ has_unit (kept_of devs d).uses.saved u = ap (λ n. nat_lt 0 n) (saved_is devs d u) ∙ some_in (kept_of devs d).uses.saved u in
    rw place rw held rw kept rw copies rw born rw deferred rw dropped rw late1b rw late1m rw late2b rw late2m rw meta rw saved refl
