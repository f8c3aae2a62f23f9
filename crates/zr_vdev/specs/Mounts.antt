-- Devices whose units stand on disks.
use Rattle.std.specs.Prelude.{◌≡◌, ℕ, ◌<◌, ◌≤◌, ◌^◌, true, false, List, length, slice_index, Option, Some, is_some}
use Rattle.zr_label.specs.Geometry.{unit_at}
use Rattle.zr_rules.specs.Places.{is_gone}
use Rattle.zr_rules.specs.Devices.{Devices, state_at}
use Rattle.zr_view.specs.Views.{slot_of}
use Rattle.zr_view.specs.Runs.{HasDisk}

-- each device that is there has a disk with all its units, and no disk is that of two
pub record AreMounted (sizes : List ℕ) (slots : List (Option ℕ)) (ds : Devices) : Type 0 where
  pub few : ds.count ≤ 32
  pub disks : (d : ℕ) → d < ds.count → is_gone (state_at ds d) ≡ false → HasDisk sizes slots d (ds.row d).units
  pub small : (d : ℕ) → (ds.row d).units ≤ 2 ^ 40
  pub apart : (d e slot : ℕ) → slot_of slots d ≡ Some slot → slot_of slots e ≡ Some slot → d ≡ e

-- the same where the disk of a device is the one of its slot, as a type can keep it
pub record HaveDisks (sizes : List ℕ) (slots : List (Option ℕ)) (ds : Devices) : Type 0 where
  pub few : ds.count ≤ 32
  pub named : (d : ℕ) → d < ds.count → is_gone (state_at ds d) ≡ false → is_some (slot_of slots d) ≡ true
  pub exists : (d slot : ℕ) → d < ds.count → is_gone (state_at ds d) ≡ false → slot_of slots d ≡ Some slot → slot < length sizes
  pub fits : (d slot : ℕ) → d < ds.count → is_gone (state_at ds d) ≡ false → slot_of slots d ≡ Some slot → unit_at (ds.row d).units ≤ slice_index sizes slot
  pub small : (d : ℕ) → (ds.row d).units ≤ 2 ^ 40
  pub apart : (d e slot : ℕ) → slot_of slots d ≡ Some slot → slot_of slots e ≡ Some slot → d ≡ e
