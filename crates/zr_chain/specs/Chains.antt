-- Devices by their indices: of each its row and its mapping.
use Rattle.std.specs.Prelude.{ℕ, List, length, slice_index_or}
use Rattle.zr_base.specs.declared.space.DevRow.{DevRow}
use Rattle.zr_base.specs.declared.space.DevPart.{DevPart}
use Rattle.zr_base.specs.declared.space.Entry.{Entry}
use Rattle.zr_rules.specs.Places.{no_part}
use Rattle.zr_rules.specs.Devices.{Devices}

-- a row, and the entries of a mapping
pub record DevMap : Type 0 where
  pub row : DevRow
  pub entries : List Entry

-- what a root records of a device
abbrev pub recorded : DevPart → DevMap
recorded p = record { row = p.row; entries = p.entries }

-- the device at an index, and one that was never there past the end
abbrev pub dev_at : List DevMap → ℕ → DevMap
dev_at devs d = slice_index_or devs d (recorded no_part)

-- the devices as pointers see them
abbrev pub devices_in : List DevMap → Devices
devices_in devs = record { count = length devs; row = λ d. (dev_at devs d).row; entries = λ d. (dev_at devs d).entries }
