-- An address that resolves has all of its bytes on disks.
use Rattle.std.proofs.Common.{◌≡◌, ℕ, zero, suc, ◌+◌, ◌*◌, ◌<◌, ◌≤◌, Bool, true, false, ◌&&◌, nat_lt, List, [], ◌∷◌, ◌++◌, length, map, drop, get_or, Option, Some, None, refl, sym, ◌∙◌, ap, subst, arith, length-append}
use Rattle.std.specs.Prelude.{if◌then◌else◌, is_some, option_and_then, slice_index}
use Rattle.std.specs.List.{flat_map, list_all, range_with_len}
use Rattle.std.proofs.lemmas.Bool.Decides.{nat_tests}
use Rattle.std.proofs.lemmas.List.{length-map, length-take-le, length-drop}
use Rattle.std.proofs.lemmas.List.FromFn.{length-range_with_len}
use Rattle.std.proofs.Math.ListN.{get_or-map}
use Rattle.zr_base.specs.declared.space.Dva.{Dva}
use Rattle.zr_label.specs.Geometry.{unit_at}
use Rattle.zr_rules.specs.Devices.{Devices, state_at}
use Rattle.zr_rules.specs.Mappings.{target}
use Rattle.zr_rules.specs.Places.{Place, is_gone, places_of}
use Rattle.zr_rules.specs.Resolve.{is_resolved, is_there, resolve, resolved}
use Rattle.zr_shelf.specs.Disks.{disk, part}
use Rattle.zr_vdev.specs.Mounts.{AreMounted}
use Rattle.zr_view.specs.Runs.{HasDisk}
use Rattle.zr_view.specs.Views.{View, address_bytes, place_bytes, slot_of, unit_bytes}

-- ---- where a unit leads

-- a place that is there
pub record IsPlaceOf (ds : Devices) (p : Place) : Type 0 where
  pub there : is_there ds p.0 p.1 ≡ true
  pub stays : is_gone (state_at ds p.0) ≡ false

pub leads_there : (n : ℕ) (ds : Devices) (d u : ℕ) (p : Place) → resolve n ds d u ≡ Some p → IsPlaceOf ds p
leads_there zero ds d u p is = absurd cc
leads_there (suc n) ds d u p is = by_gone (λ q at. leads_there n ds q.0 q.1 p at) (is_gone (state_at ds d)) refl (target (ds.entries d) u) is
  where
    by_there : (b : Bool) → is_there ds d u ≡ b → is_gone (state_at ds d) ≡ false → (if b then Some (d, u) else None) ≡ Some p → IsPlaceOf ds p
    by_there true there stays at = let same : (d, u) ≡ p = cc in subst (IsPlaceOf ds) same (record { there = there; stays = stays })
    by_there false there stays at = absurd cc

    by_gone : ((q : Place) → resolve n ds q.0 q.1 ≡ Some p → IsPlaceOf ds p) → (gone : Bool) → is_gone (state_at ds d) ≡ gone → (t : Option Place)
        → (if gone then option_and_then (λ (q : Place). resolve n ds q.0 q.1) t else (if is_there ds d u then Some (d, u) else None)) ≡ Some p → IsPlaceOf ds p
    by_gone further true state None at = absurd cc
    by_gone further true state (Some q) at = further q at
    by_gone further false state t at = by_there (is_there ds d u) refl state at

-- ---- its bytes

long_part : (bytes : List ℕ) (at n : ℕ) → at + n ≤ length bytes → length (part bytes at n) ≡ n
long_part bytes at n le = let left = length-drop at bytes in length-take-le n (drop at bytes) (omega (arith, left, le))

both : (b c : Bool) → (b && c) ≡ true → (b ≡ true) × (c ≡ true)
both true c is = (refl, is)
both false c is = absurd cc

module _ (disks : List (List ℕ)) (sizes : List ℕ) (slots : List (Option ℕ)) (ds : Devices) (sized : map length disks ≡ sizes) (mounted : AreMounted sizes slots ds) where
  abbrev view : View
  view = record { disks = disks; slots = slots; devices = ds }

  long_unit : (p : Place) → IsPlaceOf ds p → length (unit_bytes disks (slot_of slots p.0) p.1) ≡ 4096
  long_unit p h =
      let there = h.there in
      let known : p.0 < ds.count = grind (arith, nat_tests, there) in
      let within : p.1 < (ds.row p.0).units = grind (arith, nat_tests, there) in
      let on = mounted.disks p.0 known h.stays in
      let long : length (disk disks on.slot) ≡ slice_index sizes on.slot = sym (get_or-map (λ (bytes : List ℕ). length bytes) disks on.slot []) ∙ ap (λ (ns : List ℕ). get_or ns on.slot 0) sized in
      let fits = on.fits in
      ap (λ (o : Option ℕ). length (unit_bytes disks o p.1)) on.is ∙ long_part (disk disks on.slot) (unit_at p.1) 4096 (omega (arith, fits, long, within))

  long_place : (d u : ℕ) (o : Option Place) → resolved ds d u ≡ o → is_some o ≡ true → length (place_bytes view o) ≡ 4096
  long_place d u None is some = absurd cc
  long_place d u (Some p) is some = long_unit p (leads_there ds.count ds d u p is)

  long_places : (ps : List Place) → list_all (λ (o : Option Place). is_some o) (map (λ (p : Place). resolved ds p.0 p.1) ps) ≡ true
      → length (flat_map (place_bytes view) (map (λ (p : Place). resolved ds p.0 p.1) ps)) ≡ 4096 * length ps
  long_places [] all = refl
  long_places (p ∷ ps) all =
      let two = both (is_some (resolved ds p.0 p.1)) (list_all (λ (o : Option Place). is_some o) (map (λ (q : Place). resolved ds q.0 q.1) ps)) all in
      let first = long_place p.0 p.1 (resolved ds p.0 p.1) refl two.0 in
      let rest = long_places ps two.1 in
      let sum = length-append (place_bytes view (resolved ds p.0 p.1)) (flat_map (place_bytes view) (map (λ (q : Place). resolved ds q.0 q.1) ps)) in
      omega (arith, first, rest, sum)

  pub long_address : (a : Dva) → is_resolved ds a ≡ true → length (address_bytes view a) ≡ 4096 * a.len
  long_address a all =
      let long : length (places_of a) ≡ a.len = length-map (range_with_len a.start a.len) (λ (u : ℕ). (a.dev, u)) ∙ length-range_with_len a.start a.len in
      long_places (places_of a) all ∙ ap (λ (n : ℕ). 4096 * n) long
