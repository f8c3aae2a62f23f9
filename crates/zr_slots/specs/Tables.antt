-- The devices of two tables.
use Rattle.std.specs.Prelude.{◌≡◌, ℕ, ◌<◌, Bool, ◌&&◌, not, true, List, Option, Some, None, nat_lt, slice_index_or}
use Rattle.zr_rules.specs.Places.{is_gone}
use Rattle.zr_label.specs.declared.root.Uber.{Uber}
use Rattle.zr_image.specs.Current.{row_at}

-- the device is in service or leaving in the table of the root
abbrev pub is_concrete_in : Uber → ℕ → Bool
is_concrete_in u index = nat_lt index u.count && not (is_gone (row_at u index).state)

-- the slot of this device, which is in service or leaving in both tables
pub record IsSlotAt (last root : Uber) (slots : List (Option ℕ)) (index slot : ℕ) : Type 0 where
  pub in_last : is_concrete_in last index ≡ true
  pub in_root : is_concrete_in root index ≡ true
  pub here : slice_index_or slots index None ≡ Some slot

-- the slot of a device that is in service or leaving in both tables
pub record IsSlotInBoth (last root : Uber) (slots : List (Option ℕ)) (slot : ℕ) : Type 0 where
  pub index : ℕ
  pub known : index < 32
  pub at_index : IsSlotAt last root slots index slot
