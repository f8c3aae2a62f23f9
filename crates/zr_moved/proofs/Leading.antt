-- Devices with the same rows, and with the same mappings where they are gone, lead alike.
use Rattle.std.proofs.Common.{◌≡◌, ℕ, zero, suc, Bool, true, false, List, [], ◌∷◌, ◌++◌, map, Option, Some, None, refl, sym, ◌∙◌, ap}
use Rattle.std.specs.Prelude.{◌&&◌, nat_lt, if◌then◌else◌, option_and_then}
use Rattle.std.specs.List.{flat_map}
use Rattle.std.proofs.Math.Path.{fun_ext}
use Rattle.zr_base.specs.declared.space.DevRow.{DevRow}
use Rattle.zr_base.specs.declared.space.Entry.{Entry}
use Rattle.zr_bptr.specs.declared.Bptr.{Bptr}
use Rattle.zr_image.specs.Reading.{store_of}
use Rattle.zr_rules.specs.Devices.{Devices, state_at}
use Rattle.zr_rules.specs.Mappings.{target}
use Rattle.zr_rules.specs.Places.{Place, is_gone, places_of}
use Rattle.zr_rules.specs.Resolve.{resolve, resolved, resolved_units}
use Rattle.zr_store.specs.Store.{Stored}
use Rattle.zr_view.specs.Views.{View, address_bytes, place_bytes, slot_of, unit_bytes}

module _ (disks : List (List ℕ)) (slots : List (Option ℕ)) (es ds : Devices) (count : es.count ≡ ds.count) (rows : (d : ℕ) → es.row d ≡ ds.row d) (entries : (d : ℕ) → is_gone (state_at es d) ≡ true → es.entries d ≡ ds.entries d) where
  along : (f g : Place → Option Place) → ((p : Place) → f p ≡ g p) → (o : Option Place) → option_and_then f o ≡ option_and_then g o
  along f g same None = refl
  along f g same (Some p) = same p

  step_same : (n d u : ℕ) (b : Bool) → is_gone (state_at es d) ≡ b → ((p : Place) → resolve n es p.0 p.1 ≡ resolve n ds p.0 p.1) → resolve (suc n) es d u ≡ resolve (suc n) ds d u
  step_same n d u true gone rest =
      let here : is_gone (ds.row d).state ≡ true = sym (ap (λ (r : DevRow). is_gone r.state) (rows d)) ∙ gone in
      rw (gone, here)
      (along (λ (p : Place). resolve n es p.0 p.1) (λ (p : Place). resolve n ds p.0 p.1) rest (target (es.entries d) u)
      ∙ ap (λ (xs : List Entry). option_and_then (λ (p : Place). resolve n ds p.0 p.1) (target xs u)) (entries d gone))
  step_same n d u false there rest =
      let here : is_gone (ds.row d).state ≡ false = sym (ap (λ (r : DevRow). is_gone r.state) (rows d)) ∙ there in
      rw (there, here)
      (ap (λ (c : ℕ). if nat_lt d c && nat_lt u (es.row d).units then Some (d, u) else None) count
      ∙ ap (λ (r : DevRow). if nat_lt d ds.count && nat_lt u r.units then Some (d, u) else None) (rows d))

  leads_same : (n : ℕ) (p : Place) → resolve n es p.0 p.1 ≡ resolve n ds p.0 p.1
  leads_same zero p = refl
  leads_same (suc n) p = step_same n p.0 p.1 (is_gone (state_at es p.0)) refl (λ q. leads_same n q)

  led_same : (p : Place) → resolved es p.0 p.1 ≡ resolved ds p.0 p.1
  led_same p = ap (λ (n : ℕ). resolve n es p.0 p.1) count ∙ leads_same ds.count p

  units_same : (ps : List Place) → map (λ (p : Place). resolved es p.0 p.1) ps ≡ map (λ (p : Place). resolved ds p.0 p.1) ps
  units_same [] = refl
  units_same (p ∷ ps) = ap (λ (o : Option Place). o ∷ map (λ (q : Place). resolved es q.0 q.1) ps) (led_same p) ∙ ap (λ (os : List (Option Place)). resolved ds p.0 p.1 ∷ os) (units_same ps)

  abbrev by_es : View
  by_es = record { disks = disks; slots = slots; devices = es }

  abbrev by_ds : View
  by_ds = record { disks = disks; slots = slots; devices = ds }

  bytes_same : (ps : List (Option Place)) → flat_map (place_bytes by_es) ps ≡ flat_map (place_bytes by_ds) ps
  bytes_same [] = refl
  bytes_same (None ∷ ps) = bytes_same ps
  bytes_same (Some p ∷ ps) = ap (λ (xs : List ℕ). unit_bytes disks (slot_of slots p.0) p.1 ++ xs) (bytes_same ps)

  one_same : (b : Bptr) → address_bytes by_es b.at ≡ address_bytes by_ds b.at
  one_same b = bytes_same (resolved_units es b.at) ∙ ap (λ (ps : List (Option Place)). flat_map (place_bytes by_ds) ps) (units_same (places_of b.at))

  pub same_store : store_of by_es ≡ store_of by_ds
  same_store = ap with_bytes (fun_ext one_same)
    where
      with_bytes : (Bptr → List ℕ) → Stored
      with_bytes f = record { pointers = []; bytes = f }
