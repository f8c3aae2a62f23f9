-- Blocks as they stand on the disks, by the slots of the devices.
use Rattle.std.proofs.Common.{◌≡◌, ℕ, List, [], ◌∷◌, ◌++◌, map, Option, Some, None, refl, ◌∙◌, ap, subst}
use Rattle.std.specs.List.{flat_map}
use Rattle.std.proofs.Math.Path.{fun_ext}
use Rattle.zr_bptr.specs.declared.Bptr.{Bptr}
use Rattle.zr_label.specs.declared.root.Uber.{Uber}
use Rattle.zr_image.specs.Reading.{bare_devices, store_of}
use Rattle.zr_rules.specs.Devices.{Devices, devices_of}
use Rattle.zr_rules.specs.Places.{Place}
use Rattle.zr_rules.specs.Resolve.{resolved_units}
use Rattle.zr_store.specs.Store.{Stored}
use Rattle.zr_view.specs.Views.{place_bytes, unit_bytes}
use Rattle.zr_current.specs.Current.{HasSlots}
use Rattle.zr_import.specs.Directories.{IsInPlace}
use Rattle.zr_import.specs.Spending.{HasOlder, MarksHeld}
use Rattle.zr_import.specs.Words.{ReadsMeta, meta_reach}
use Rattle.zr_objset.specs.Records.{all_reach}
use Rattle.zr_roots.specs.Standing.{Stands, blocks_of, image_of}
use Rattle.zr_import.specs.declared.roots.Root.{Root}

-- ---- the same slots

module _ (disks : List (List ℕ)) (these slots : List (Option ℕ)) (ds : Devices) (same : HasSlots these slots) where
  places_same : (ps : List (Option Place)) → flat_map (place_bytes (record { disks = disks; slots = slots; devices = ds })) ps ≡ flat_map (place_bytes (record { disks = disks; slots = these; devices = ds })) ps
  places_same [] = refl
  places_same (None ∷ ps) = places_same ps
  places_same (Some p ∷ ps) =
      ap (λ (o : Option ℕ). unit_bytes disks o p.1 ++ flat_map (place_bytes (record { disks = disks; slots = slots; devices = ds })) ps) (same p.0)
      ∙ ap (λ (xs : List ℕ). place_bytes (record { disks = disks; slots = these; devices = ds }) (Some p) ++ xs) (places_same ps)

  pub store_same : store_of (record { disks = disks; slots = slots; devices = ds }) ≡ store_of (record { disks = disks; slots = these; devices = ds })
  store_same = ap with_bytes (fun_ext (λ b. places_same (resolved_units ds b.at)))
    where
      with_bytes : (Bptr → List ℕ) → Stored
      with_bytes f = record { pointers = []; bytes = f }

-- what stands in a root's trees stands there by other slots, if the blocks read the same
pub stands_by : (disks : List (List ℕ)) (slots these : List (Option ℕ)) (u : Uber) (r : Root) → image_of disks slots u ≡ image_of disks these u → blocks_of disks slots r ≡ blocks_of disks these r → Stands disks slots u r → Stands disks these u r
stands_by disks slots these u r bare own has = record {
  reads = subst (λ (s : Stored). ReadsMeta s u r.head r.parts) bare has.reads;
  meta = subst (λ (s : Stored). r.meta ≡ map (λ (b : Bptr). b.at) (meta_reach s u r.head)) bare has.meta;
  held = subst (λ (s : Stored). MarksHeld u.txg r.parts r.meta (all_reach s r.head.dir)) own has.held;
  place = subst (λ (s : Stored). IsInPlace s r.head.dir) own has.place;
  older = λ since held. subst (λ (s : Stored). HasOlder u.txg since r.parts r.meta (all_reach s r.head.dir) r.older) own (has.older since held);
}

pub stands_same : (disks : List (List ℕ)) (these slots : List (Option ℕ)) (u : Uber) (r : Root) → HasSlots these slots → Stands disks slots u r → Stands disks these u r
stands_same disks these slots u r same has =
    stands_by disks slots these u r (store_same disks these slots (bare_devices u) same) (store_same disks these slots (devices_of r.parts.devs) same) has
