-- The room within a commit, which gives metadata back before the group ends.
use Rattle.std.specs.Prelude.{◌≡◌, ℕ, Bool, true, length, if◌then◌else◌, sum_by}
use Rattle.zr_rules.specs.Places.{part_of}
use Rattle.zr_rules.specs.Roles.{Role}
use Rattle.zr_rules.specs.Space.{Space, IsLawful}
use Rattle.zr_rules.specs.Columns.{role_count, on_devices}
use Rattle.zr_rules.specs.Frees.{IsSamePart}
use Rattle.zr_reckon.specs.Uses.{is_room_role, is_dropped_role}

-- of the room, or metadata that is given back and will be late
abbrev pub is_coming_role : Role → Bool
is_coming_role r = if is_room_role r then true else is_dropped_role r

-- the room, and the metadata units that the open group's commit has given back
abbrev pub room_to_come : Space → ℕ
room_to_come s = sum_by (role_count s is_coming_role) (on_devices s)

-- the version and what is recorded of each device but its sets are the same, and both spaces are lawful
pub record KeepsRecords (old new : Space) : Type 0 where
  pub version : new.parts.version ≡ old.parts.version
  pub devices : length new.parts.devs ≡ length old.parts.devs
  pub each : (d : ℕ) → IsSamePart (part_of old.parts.devs d) (part_of new.parts.devs d)
  pub old_lawful : IsLawful old
  pub new_lawful : IsLawful new
