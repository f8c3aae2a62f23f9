-- What an address reads from disks.
use Rattle.std.specs.Prelude.{ℕ, List, [], slice_index_or, Option, Some, None}
use Rattle.std.specs.List.{flat_map}
use Rattle.zr_shelf.specs.Disks.{disk, part}
use Rattle.zr_base.specs.declared.space.Dva.{Dva}
use Rattle.zr_label.specs.Geometry.{unit_at}
use Rattle.zr_rules.specs.Places.{Place}
use Rattle.zr_rules.specs.Devices.{Devices}
use Rattle.zr_rules.specs.Resolve.{resolved_units}

-- the slot of a device, none of one that has no disk
abbrev pub slot_of : List (Option ℕ) → ℕ → Option ℕ
slot_of slots d = slice_index_or slots d None

-- an image, the slot of each device, and the devices with their mappings
pub record View : Type 0 where
  pub disks : List (List ℕ)
  pub slots : List (Option ℕ)
  pub devices : Devices

-- the bytes of a unit of the disk in a slot
abbrev pub unit_bytes : List (List ℕ) → Option ℕ → ℕ → List ℕ
unit_bytes disks None u = []
unit_bytes disks (Some slot) u = part (disk disks slot) (unit_at u) 4096

-- the bytes of a place, none where an address leads nowhere
abbrev pub place_bytes : View → Option Place → List ℕ
place_bytes v None = []
place_bytes v (Some p) = unit_bytes v.disks (slot_of v.slots p.0) p.1

-- the bytes of an address: those of the places to which its units lead, in order
abbrev pub address_bytes : View → Dva → List ℕ
address_bytes v a = flat_map (place_bytes v) (resolved_units v.devices a)
