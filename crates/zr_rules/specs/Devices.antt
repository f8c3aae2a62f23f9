-- The devices of a pool as a pointer sees them: their rows and their mappings.
use Rattle.std.specs.Prelude.{ℕ, List, length}
use Rattle.zr_base.specs.declared.space.DevRow.{DevRow}
use Rattle.zr_base.specs.declared.space.DevPart.{DevPart}
use Rattle.zr_base.specs.declared.space.DevState.{DevState}
use Rattle.zr_base.specs.declared.space.Entry.{Entry}
use Rattle.zr_rules.specs.Places.{part_of}

-- how many indices were given out, and by index the row and the mapping, which is empty while a device is in service
pub record Devices : Type 0 where
  pub count : ℕ
  pub row : ℕ → DevRow
  pub entries : ℕ → List Entry

-- the state of a device
abbrev pub state_at : Devices → ℕ → DevState
state_at ds d = (ds.row d).state

-- the devices that a root records
abbrev pub devices_of : List DevPart → Devices
devices_of parts = record { count = length parts; row = λ d. (part_of parts d).row; entries = λ d. (part_of parts d).entries }
