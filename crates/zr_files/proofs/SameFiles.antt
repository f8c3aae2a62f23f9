-- The device files stay what they are where one of them is used, and what was moved of the others stays.
use Rattle.std.proofs.Common.{◌≡◌, ◌<◌, ℕ, ◌+◌, List, ◌++◌, map, take, drop, get_or, length, refl, sym, ◌∙◌, ap, arith}
use Rattle.std.proofs.Math.ListN.{set, get_or-map}
use Rattle.std.proofs.Math.Seq.{map-set_same}
use Rattle.std.proofs.lemmas.List.{map-set, length-map}
use Rattle.std.proofs.lemmas.List.Edits.{map_over_more}
use Rattle.std.proofs.lemmas.Option.{slice_get-map, slice_get_read}
use Rattle.std.specs.Option.{option_map}
use Rattle.zr_files.specs.declared.file_desk.DeviceFile.{DeviceFile}
use Rattle.zr_files.specs.declared.file_desk.Traffic.{Traffic}
use Rattle.zr_files.specs.Devices.{IsSameFile, AreSameFiles, ChangesOne, is_synced}

pub same_files : (devices : List DeviceFile) (slot : ℕ) (old new : DeviceFile) → old ≡ get_or devices slot old → IsSameFile old new
    → AreSameFiles devices (set devices slot new)
same_files devices slot old new here same = record {
  sizes = map-set_same (λ (d : DeviceFile). d.size) devices slot new old (same.size ∙ ap (λ (d : DeviceFile). d.size) here);
  paths = map-set_same (λ (d : DeviceFile). d.path.items) devices slot new old (same.path ∙ ap (λ (d : DeviceFile). d.path.items) here);
  openings = map-set_same (λ (d : DeviceFile). d.opening) devices slot new old (same.opening ∙ ap (λ (d : DeviceFile). d.opening) here);
  makes = map-set_same (λ (d : DeviceFile). d.make) devices slot new old (same.make ∙ ap (λ (d : DeviceFile). d.make) here);
}

-- and also behind others that were used
pub same_files_more : (first devices : List DeviceFile) (slot : ℕ) (old new : DeviceFile) → AreSameFiles first devices → old ≡ get_or devices slot old
    → IsSameFile old new → AreSameFiles first (set devices slot new)
same_files_more first devices slot old new before here same =
    let more = same_files devices slot old new here same in
    record {
      sizes = more.sizes ∙ before.sizes;
      paths = more.paths ∙ before.paths;
      openings = more.openings ∙ before.openings;
      makes = more.makes ∙ before.makes;
    }

pub one_changed : (change : Traffic → Traffic) (devices : List DeviceFile) (slot : ℕ) (old new : DeviceFile) → slot < length devices
    → old ≡ get_or devices slot old → new.traffic ≡ change old.traffic
    → ChangesOne change slot (map (λ f. f.traffic) devices) (map (λ f. f.traffic) (set devices slot new))
one_changed change devices slot old new there here changed =
    let f : DeviceFile → Traffic = λ d. d.traffic in (
      old.traffic,
      slice_get-map f devices slot ∙ ap (option_map f) (slice_get_read devices (length devices) slot old refl there here),
      map-set f devices slot new ∙ ap (set (map f devices) slot) changed,
    )

-- a loop that makes each file durable has come one further
pub one_more_synced : (first devices : List DeviceFile) (i : ℕ) (old new : DeviceFile) → i < length first
    → map (λ f. f.traffic) devices ≡ map is_synced (take i (map (λ f. f.traffic) first)) ++ drop i (map (λ f. f.traffic) first)
    → old ≡ get_or devices i old → new.traffic ≡ is_synced old.traffic
    → map (λ f. f.traffic) (set devices i new) ≡ map is_synced (take (i + 1) (map (λ f. f.traffic) first)) ++ drop (i + 1) (map (λ f. f.traffic) first)
one_more_synced first devices i old new there before here changed =
    let f : DeviceFile → Traffic = λ d. d.traffic in
    let within : i < length (map f first) = omega (arith, length-map first f) in
    map-set f devices i new
    ∙ ap (set (map f devices) i) changed
    ∙ map_over_more is_synced (map f first) (map f devices) i old.traffic within before (ap f here ∙ sym (get_or-map f devices i old))
