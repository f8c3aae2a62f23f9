-- Devices that lead alike read alike, and slots of devices that are not there do not matter.
use Rattle.std.proofs.Common.{◌≡◌, ℕ, zero, suc, ◌<◌, Bool, true, false, ◌&&◌, nat_lt, List, [], ◌∷◌, ◌++◌, map, Option, Some, None, refl, sym, ◌∙◌, ap, subst, arith}
use Rattle.std.specs.Prelude.{if◌then◌else◌, option_and_then}
use Rattle.std.specs.List.{flat_map}
use Rattle.std.proofs.Math.Path.{fun_ext}
use Rattle.std.proofs.lemmas.Bool.Decides.{nat_tests}
use Rattle.zr_bptr.specs.declared.Bptr.{Bptr}
use Rattle.zr_base.specs.declared.space.Entry.{Entry}
use Rattle.zr_freed.proofs.Bytes.{leads_there}
use Rattle.zr_image.specs.Reading.{store_of}
use Rattle.zr_rules.specs.Devices.{Devices, state_at}
use Rattle.zr_rules.specs.Mappings.{target}
use Rattle.zr_rules.specs.Places.{Place, is_gone, places_of}
use Rattle.zr_rules.specs.Resolve.{is_there, resolve, resolved, resolved_units}
use Rattle.zr_store.specs.Store.{Stored}
use Rattle.zr_view.specs.Views.{View, address_bytes, place_bytes, slot_of, unit_bytes}

abbrev with_bytes : (Bptr → List ℕ) → Stored
with_bytes f = record { pointers = []; bytes = f }

-- ---- devices of which the same are gone, with the same units and the same mappings

module _ (disks : List (List ℕ)) (slots : List (Option ℕ)) (es ds : Devices) (count : es.count ≡ ds.count) (gone : (d : ℕ) → is_gone (state_at es d) ≡ is_gone (state_at ds d)) (units : (d : ℕ) → (es.row d).units ≡ (ds.row d).units)
    (entries : (d : ℕ) → es.entries d ≡ ds.entries d) where
  then_alike : (n : ℕ) → ((d u : ℕ) → resolve n es d u ≡ resolve n ds d u) → (o : Option Place) → option_and_then (λ (p : Place). resolve n es p.0 p.1) o ≡ option_and_then (λ (p : Place). resolve n ds p.0 p.1) o
  then_alike n rest None = refl
  then_alike n rest (Some p) = rest p.0 p.1

  there_alike : (d u : ℕ) → is_there es d u ≡ is_there ds d u
  there_alike d u = ap (λ (c : ℕ). nat_lt d c && nat_lt u (es.row d).units) count ∙ ap (λ (k : ℕ). nat_lt d ds.count && nat_lt u k) (units d)

  one_alike : (n d u : ℕ) → ((e v : ℕ) → resolve n es e v ≡ resolve n ds e v) → resolve (suc n) es d u ≡ resolve (suc n) ds d u
  one_alike n d u rest =
      ap (λ (b : Bool). if b then option_and_then (λ (p : Place). resolve n es p.0 p.1) (target (es.entries d) u) else (if is_there es d u then Some (d, u) else None)) (gone d)
      ∙ (ap (λ (o : Option Place). if is_gone (state_at ds d) then o else (if is_there es d u then Some (d, u) else None))
      (ap (λ (xs : List Entry). option_and_then (λ (p : Place). resolve n es p.0 p.1) (target xs u)) (entries d) ∙ then_alike n rest (target (ds.entries d) u))
      ∙ ap (λ (b : Bool). if is_gone (state_at ds d) then option_and_then (λ (p : Place). resolve n ds p.0 p.1) (target (ds.entries d) u) else (if b then Some (d, u) else None)) (there_alike d u))

  leads_alike : (n d u : ℕ) → resolve n es d u ≡ resolve n ds d u
  leads_alike zero d u = refl
  leads_alike (suc n) d u = one_alike n d u (λ e v. leads_alike n e v)

  led_alike : (p : Place) → resolved es p.0 p.1 ≡ resolved ds p.0 p.1
  led_alike p = ap (λ (n : ℕ). resolve n es p.0 p.1) count ∙ leads_alike ds.count p.0 p.1

  places_alike : (ps : List Place) → map (λ (p : Place). resolved es p.0 p.1) ps ≡ map (λ (p : Place). resolved ds p.0 p.1) ps
  places_alike [] = refl
  places_alike (p ∷ ps) = ap (λ (o : Option Place). o ∷ map (λ (q : Place). resolved es q.0 q.1) ps) (led_alike p) ∙ ap (λ (os : List (Option Place)). resolved ds p.0 p.1 ∷ os) (places_alike ps)

  abbrev by_es : View
  by_es = record { disks = disks; slots = slots; devices = es }

  abbrev by_ds : View
  by_ds = record { disks = disks; slots = slots; devices = ds }

  bytes_alike : (ps : List (Option Place)) → flat_map (place_bytes by_es) ps ≡ flat_map (place_bytes by_ds) ps
  bytes_alike [] = refl
  bytes_alike (None ∷ ps) = bytes_alike ps
  bytes_alike (Some p ∷ ps) = ap (λ (xs : List ℕ). unit_bytes disks (slot_of slots p.0) p.1 ++ xs) (bytes_alike ps)

  block_alike : (b : Bptr) → address_bytes by_es b.at ≡ address_bytes by_ds b.at
  block_alike b = bytes_alike (resolved_units es b.at) ∙ ap (λ (ps : List (Option Place)). flat_map (place_bytes by_ds) ps) (places_alike (places_of b.at))

  pub store_alike : store_of by_es ≡ store_of by_ds
  store_alike = ap with_bytes (fun_ext block_alike)

-- ---- the slots of other devices do not matter

module _ (disks : List (List ℕ)) (these slots : List (Option ℕ)) (ds : Devices) (same : (d : ℕ) → d < ds.count → is_gone (state_at ds d) ≡ false → slot_of these d ≡ slot_of slots d) where
  abbrev by_these : View
  by_these = record { disks = disks; slots = these; devices = ds }

  abbrev by_slots : View
  by_slots = record { disks = disks; slots = slots; devices = ds }

  one_place : (d u : ℕ) (o : Option Place) → resolved ds d u ≡ o → place_bytes by_these o ≡ place_bytes by_slots o
  one_place d u None is = refl
  one_place d u (Some p) is =
      let at = leads_there ds.count ds d u p is in
      let there = at.there in
      ap (λ (o : Option ℕ). unit_bytes disks o p.1) (same p.0 (grind (arith, nat_tests, there)) at.stays)

  all_places : (ps : List Place) → flat_map (place_bytes by_these) (map (λ (p : Place). resolved ds p.0 p.1) ps) ≡ flat_map (place_bytes by_slots) (map (λ (p : Place). resolved ds p.0 p.1) ps)
  all_places [] = refl
  all_places (p ∷ ps) =
      ap (λ (xs : List ℕ). xs ++ flat_map (place_bytes by_these) (map (λ (q : Place). resolved ds q.0 q.1) ps)) (one_place p.0 p.1 (resolved ds p.0 p.1) refl)
      ∙ ap (λ (xs : List ℕ). place_bytes by_slots (resolved ds p.0 p.1) ++ xs) (all_places ps)

  pub store_cut : store_of by_these ≡ store_of by_slots
  store_cut = ap with_bytes (fun_ext (λ b. all_places (places_of b.at)))
