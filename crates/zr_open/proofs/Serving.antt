-- Devices that are there with the same rows lead alike, whatever mappings are told of them.
use Rattle.std.proofs.Common.{◌≡◌, ℕ, zero, suc, List, [], ◌∷◌, ◌++◌, map, Option, Some, None, false, refl, sym, ◌∙◌, ap}
use Rattle.std.specs.Prelude.{◌&&◌, nat_lt, if◌then◌else◌}
use Rattle.std.specs.List.{flat_map, range_with_len}
use Rattle.std.proofs.Math.Path.{fun_ext}
use Rattle.zr_base.specs.declared.space.DevRow.{DevRow}
use Rattle.zr_base.specs.declared.space.Dva.{Dva}
use Rattle.zr_bptr.specs.declared.Bptr.{Bptr}
use Rattle.zr_image.specs.Reading.{store_of}
use Rattle.zr_rules.specs.Devices.{Devices, state_at}
use Rattle.zr_rules.specs.Places.{Place, is_gone, places_of}
use Rattle.zr_rules.specs.Resolve.{resolve, resolved, resolved_units}
use Rattle.zr_open.specs.There.{AreThere}
use Rattle.zr_store.specs.Store.{Stored}
use Rattle.zr_view.specs.Views.{View, address_bytes, place_bytes, slot_of, unit_bytes}

-- ---- devices with the same rows lead alike

module _ (disks : List (List ℕ)) (slots : List (Option ℕ)) (es ds : Devices) (count : es.count ≡ ds.count) (rows : (d : ℕ) → es.row d ≡ ds.row d) (on : AreThere es) where
  leads_same : (n d u : ℕ) → resolve n es d u ≡ resolve n ds d u
  leads_same zero d u = refl
  leads_same (suc n) d u =
      let there = on d in
      let here : is_gone (ds.row d).state ≡ false = sym (ap (λ (r : DevRow). is_gone r.state) (rows d)) ∙ there in
      rw (there, here)
      (ap (λ (c : ℕ). if nat_lt d c && nat_lt u (es.row d).units then Some (d, u) else None) count
      ∙ ap (λ (r : DevRow). if nat_lt d ds.count && nat_lt u r.units then Some (d, u) else None) (rows d))

  led_same : (p : Place) → resolved es p.0 p.1 ≡ resolved ds p.0 p.1
  led_same p = ap (λ (n : ℕ). resolve n es p.0 p.1) count ∙ leads_same ds.count p.0 p.1

  units_same : (ps : List Place) → map (λ (p : Place). resolved es p.0 p.1) ps ≡ map (λ (p : Place). resolved ds p.0 p.1) ps
  units_same [] = refl
  units_same (p ∷ ps) = ap (λ (o : Option Place). o ∷ map (λ (q : Place). resolved es q.0 q.1) ps) (led_same p) ∙ ap (λ (os : List (Option Place)). resolved ds p.0 p.1 ∷ os) (units_same ps)

  abbrev by_es : View
  by_es = record { disks = disks; slots = slots; devices = es }

  abbrev by_ds : View
  by_ds = record { disks = disks; slots = slots; devices = ds }

  bytes_same : (ps : List (Option Place)) → flat_map (place_bytes by_es) ps ≡ flat_map (place_bytes by_ds) ps
  bytes_same [] = refl
  bytes_same (None ∷ ps) = bytes_same ps
  bytes_same (Some p ∷ ps) = ap (λ (xs : List ℕ). unit_bytes disks (slot_of slots p.0) p.1 ++ xs) (bytes_same ps)

  one_same : (b : Bptr) → address_bytes by_es b.at ≡ address_bytes by_ds b.at
  one_same b = bytes_same (resolved_units es b.at) ∙ ap (λ (ps : List (Option Place)). flat_map (place_bytes by_ds) ps) (units_same (places_of b.at))

  pub same_store : store_of by_es ≡ store_of by_ds
  same_store = ap with_bytes (fun_ext one_same)
    where
      with_bytes : (Bptr → List ℕ) → Stored
      with_bytes f = record { pointers = []; bytes = f }

-- an address on a device that is there leads alike, whatever devices are gone
module _ (disks : List (List ℕ)) (slots : List (Option ℕ)) (es ds : Devices) (count : es.count ≡ ds.count) (rows : (d : ℕ) → es.row d ≡ ds.row d) (a : Dva) (on : is_gone (state_at es a.dev) ≡ false) where
  unit_same : (n u : ℕ) → resolve n es a.dev u ≡ resolve n ds a.dev u
  unit_same zero u = refl
  unit_same (suc n) u =
      let here : is_gone (ds.row a.dev).state ≡ false = sym (ap (λ (r : DevRow). is_gone r.state) (rows a.dev)) ∙ on in
      rw (on, here)
      (ap (λ (c : ℕ). if nat_lt a.dev c && nat_lt u (es.row a.dev).units then Some (a.dev, u) else None) count
      ∙ ap (λ (r : DevRow). if nat_lt a.dev ds.count && nat_lt u r.units then Some (a.dev, u) else None) (rows a.dev))

  all_same : (us : List ℕ) → map (λ (p : Place). resolved es p.0 p.1) (map (λ (u : ℕ). (a.dev, u)) us) ≡ map (λ (p : Place). resolved ds p.0 p.1) (map (λ (u : ℕ). (a.dev, u)) us)
  all_same [] = refl
  all_same (u ∷ us) =
      let first : resolved es a.dev u ≡ resolved ds a.dev u = ap (λ (n : ℕ). resolve n es a.dev u) count ∙ unit_same ds.count u in
      ap (λ (o : Option Place). o ∷ map (λ (p : Place). resolved es p.0 p.1) (map (λ (v : ℕ). (a.dev, v)) us)) first ∙ ap (λ (os : List (Option Place)). resolved ds a.dev u ∷ os) (all_same us)

  places_same : (ps : List (Option Place)) → flat_map (place_bytes (record { disks = disks; slots = slots; devices = es })) ps ≡ flat_map (place_bytes (record { disks = disks; slots = slots; devices = ds })) ps
  places_same [] = refl
  places_same (None ∷ ps) = places_same ps
  places_same (Some p ∷ ps) = ap (λ (xs : List ℕ). unit_bytes disks (slot_of slots p.0) p.1 ++ xs) (places_same ps)

  pub address_same : address_bytes (record { disks = disks; slots = slots; devices = es }) a ≡ address_bytes (record { disks = disks; slots = slots; devices = ds }) a
  address_same = places_same (resolved_units es a) ∙ ap (λ (ps : List (Option Place)). flat_map (place_bytes (record { disks = disks; slots = slots; devices = ds })) ps) (all_same (range_with_len a.start a.len))
