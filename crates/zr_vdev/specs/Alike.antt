-- Copies of the units of a device that is leaving, as they stand on the disks.
use Rattle.std.specs.Prelude.{◌≡◌, ◌<◌, ℕ, true, false, List, Option, Some}
use Rattle.zr_rules.specs.Mappings.{target}
use Rattle.zr_rules.specs.Places.{Place, is_fresh, is_leaving, part_of, state_of_dev, units_of_dev}
use Rattle.zr_rules.specs.Roles.{is_copy_role}
use Rattle.zr_rules.specs.Space.{Space, role_at}
use Rattle.zr_view.specs.Views.{slot_of, unit_bytes}

-- The place has the copy of a unit of a device that is leaving, one of its own units, and neither was given back.
pub record IsCopyAt (s : Space) (d u : ℕ) (p : Place) : Type 0 where
  pub leaving : is_leaving (state_of_dev s.parts.devs d) ≡ true
  pub within : u < units_of_dev s.parts.devs d
  pub unmarked : is_fresh s.parts.devs d u ≡ false
  pub leads : target (part_of s.parts.devs d).entries u ≡ Some p
  pub copy : is_copy_role (role_at s p.0 p.1) ≡ true

-- each copy has the bytes of its unit
abbrev pub CopiesStand : List (List ℕ) → List (Option ℕ) → Space → Type 0
CopiesStand disks slots s = (d u : ℕ) (p : Place) → IsCopyAt s d u p → unit_bytes disks (slot_of slots p.0) p.1 ≡ unit_bytes disks (slot_of slots d) u
