-- The devices of a root, and their disks.
use Rattle.std.specs.Prelude.{◌≡◌, ℕ, ◌<◌, Bool, false, not, ◌&&◌, nat_lt, List, length, slice_index, Option, Some, None, if◌then◌else◌}
use Rattle.zr_base.specs.declared.space.DevPart.{DevPart}
use Rattle.zr_image.specs.Current.{row_at}
use Rattle.zr_label.specs.Geometry.{units_of_size}
use Rattle.zr_label.specs.declared.root.Uber.{Uber}
use Rattle.zr_rules.specs.Places.{is_gone, part_of}
use Rattle.zr_view.specs.Runs.{HasDisk}
use Rattle.zr_view.specs.Views.{slot_of}

-- there are as many parts as devices of the root, each with its row
pub record HasRows (u : Uber) (devs : List DevPart) : Type 0 where
  pub count : length devs ≡ u.count
  pub each : (d : ℕ) → d < u.count → (part_of devs d).row ≡ row_at u d

-- Each device of the root that is not gone has a disk with its units. No disk is that of two, and each device has the units of its disk.
pub record HasItsDisks (sizes : List ℕ) (slots : List (Option ℕ)) (u : Uber) : Type 0 where
  pub disks : (d : ℕ) → d < u.count → is_gone (row_at u d).state ≡ false → HasDisk sizes slots d (row_at u d).units
  pub apart : (d e slot : ℕ) → slot_of slots d ≡ Some slot → slot_of slots e ≡ Some slot → d ≡ e
  pub sized : (d slot : ℕ) → d < u.count → slot_of slots d ≡ Some slot → units_of_size (slice_index sizes slot) 2 ≡ Some (row_at u d).units

-- the root has the device, and it is not gone
abbrev pub is_there : Uber → ℕ → Bool
is_there u d = nat_lt d u.count && not (is_gone (row_at u d).state)

-- the slots of the devices of the root that are there, and no others
abbrev pub IsCut : Uber → List (Option ℕ) → List (Option ℕ) → Type 0
IsCut u slots cut = (d : ℕ) → slot_of cut d ≡ (if is_there u d then slot_of slots d else None)
