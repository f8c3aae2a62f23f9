-- What a space can have, its devices can, each by itself and together.
use Rattle.std.proofs.Common.{◌≡◌, ℕ, ◌+◌, ◌≤◌, ◌<◌, Bool, true, false, not, ◌&&◌, nat_lt, List, length, refl, ap, arith, if◌then◌else◌}
use Rattle.std.proofs.lemmas.Bool.Decides.{nat_tests}
use Rattle.zr_base.specs.declared.space.Dva.{Dva}
use Rattle.zr_base.specs.declared.space.SpaceParts.{SpaceParts}
use Rattle.zr_base.specs.Extents.{has_unit}
use Rattle.zr_rules.specs.Places.{one_if, part_of, hits_late, address_hits, is_gone}
use Rattle.zr_rules.specs.Space.{opened_of, nothing_opened, OpenSets, has_place, copy_hits}
use Rattle.zr_rules.specs.Equation.{root_space}
use Rattle.zr_space.specs.Opens.{ArePlaced, CanOpen}
use Rattle.zr_space.specs.Reads.{CanReadPart}
use Rattle.zr_space.specs.Views.{units_there}
use Rattle.zr_space.proofs.Opening.{none_opened}
use Rattle.zr_space.proofs.Refusing.{ends_by}

module _ (parts : SpaceParts) (meta saved : List Dva) (can : CanOpen parts meta saved) (d : ℕ) (there : d < length parts.devs) where
  nothing : opened_of (root_space parts meta saved) d ≡ nothing_opened
  nothing = none_opened parts.devs d

  kept_held : (u : ℕ) → has_unit (part_of parts.devs d).kept u ≡ true → has_unit (part_of parts.devs d).held u ≡ true
  kept_held u is = let c = can.lawful.copies d u in among (has_unit (part_of parts.devs d).kept u) (has_unit (part_of parts.devs d).held u) (copy_hits parts.devs d u) c is
    where
      among : (k h : Bool) (n : ℕ) → n + one_if k ≤ one_if h → k ≡ true → h ≡ true
      among k h n le is = grind (arith, nat_tests, le, is)

  -- a unit of the device is one of those that are there
  placed : (u : ℕ) → one_if (has_place (root_space parts meta saved) d u) ≤ one_if (nat_lt u (units_there (part_of parts.devs d).row))
  placed u = by (nat_lt d (length parts.devs)) (is_gone (part_of parts.devs d).row.state) (part_of parts.devs d).row.units
    where
      by : (a g : Bool) (n : ℕ) → one_if (a && (not g && nat_lt u n)) ≤ one_if (nat_lt u (if g then 0 else n))
      by a true n = grind (arith, nat_tests)
      by a false n = grind (arith, nat_tests)

  once_in : (u : ℕ) → one_if (has_unit (part_of parts.devs d).held u) + hits_late (part_of parts.devs d).late1 u + hits_late (part_of parts.devs d).late2 u + address_hits meta d u + address_hits saved d u ≤ one_if (nat_lt u (units_there (part_of parts.devs d).row))
  once_in u =
      let o = can.lawful.once d u in
      let deferred = ap (λ (x : OpenSets). one_if (has_unit x.deferred u)) nothing in
      let dropped = ap (λ (x : OpenSets). one_if (has_unit x.dropped u)) nothing in
      let place = placed u in
      omega (arith, o, deferred, dropped, place)

  held_within : (u : ℕ) → has_unit (part_of parts.devs d).held u ≡ true → u < units_there (part_of parts.devs d).row
  held_within u is = let o = once_in u in grind (arith, nat_tests, o, is)

  pub can_read : CanReadPart (part_of parts.devs d) meta saved d
  can_read =
      let sets = can.lawful.sets d in
      let part = can.each d there in
      record {
        small = part.small;
        mapped = part.mapped;
        fresh = sets.fresh;
        held = record { maximal = sets.held.maximal; within = ends_by 0 (units_there (part_of parts.devs d).row) (part_of parts.devs d).held sets.held.maximal held_within };
        kept = record { maximal = sets.kept.maximal; within = ends_by 0 (units_there (part_of parts.devs d).row) (part_of parts.devs d).kept sets.kept.maximal (λ u is. held_within u (kept_held u is)); among = kept_held };
        late1 = part.late1;
        late2 = part.late2;
        once = once_in;
      }

-- the metadata lies on devices that are there
known : (parts : SpaceParts) (meta saved : List Dva) → CanOpen parts meta saved → (d u : ℕ) → length parts.devs ≤ d → (address_hits meta d u ≡ 0) × (address_hits saved d u ≡ 0)
known parts meta saved can d u past =
    let o = can.lawful.once d u in
    let none : one_if (has_place (root_space parts meta saved) d u) ≡ 0 = nowhere (nat_lt d (length parts.devs)) (not (is_gone (part_of parts.devs d).row.state) && nat_lt u (part_of parts.devs d).row.units) (grind (arith, nat_tests, past)) in
    (omega (arith, o, none), omega (arith, o, none))
  where
    nowhere : (a b : Bool) → a ≡ false → one_if (a && b) ≡ 0
    nowhere a b is = rw is refl

pub placed_all : (parts : SpaceParts) (meta saved : List Dva) (devices : ℕ) → devices ≡ length parts.devs → CanOpen parts meta saved → ArePlaced devices meta saved
placed_all parts meta saved devices is can = record {
  few = let f = can.few in omega (arith, f, is);
  meta_known = λ d u past. (known parts meta saved can d u (omega (arith, past, is))).0;
  saved_known = λ d u past. (known parts meta saved can d u (omega (arith, past, is))).1;
}
