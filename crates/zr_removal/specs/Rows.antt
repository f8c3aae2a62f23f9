-- The rows of a pool's table.
use Rattle.std.specs.Prelude.{ℕ, ◌<◌, List, All, None, slice_set}
use Rattle.zr_base.specs.declared.space.DevRow.{DevRow}
use Rattle.zr_sync.specs.declared.open.Table.{Table}

-- the table with another row for a device
abbrev pub with_row : Table → ℕ → DevRow → Table
with_row t d r = record { count = t.count; rows = slice_set t.rows d r; slots = t.slots }

-- the table with no disk for a device
abbrev pub without_slot : Table → ℕ → Table
without_slot t d = record { count = t.count; rows = t.rows; slots = slice_set t.slots d None }

-- the device came before this group, and went before it if it is gone
pub record IsPast (txg : ℕ) (r : DevRow) : Type 0 where
  pub added : r.added < txg
  pub gone : r.gone < txg

abbrev pub ArePast : ℕ → List DevRow → Type 0
ArePast txg rows = All (IsPast txg) rows
