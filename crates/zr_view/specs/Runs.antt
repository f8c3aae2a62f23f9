-- Runs of units on disks, as an address is read or written.
use Rattle.std.specs.Prelude.{◌≡◌, ℕ, ◌+◌, ◌*◌, ◌≤◌, ◌<◌, List, [], length, slice_index, Option, Some, None}
use Rattle.zr_shelf.specs.Disks.{disk, part}
use Rattle.zr_imap.specs.declared.image.Piece.{Piece}
use Rattle.zr_label.specs.Geometry.{unit_at}
use Rattle.zr_view.specs.Views.{slot_of}

-- so many bytes of the disk in a slot, from a unit on
abbrev pub bytes_from : List (List ℕ) → Option ℕ → ℕ → ℕ → List ℕ
bytes_from disks None u n = []
bytes_from disks (Some slot) u n = part (disk disks slot) (unit_at u) n

-- the bytes of a run
abbrev pub run_bytes : List (List ℕ) → List (Option ℕ) → Piece → List ℕ
run_bytes disks slots p = bytes_from disks (slot_of slots p.dev) p.at.start (4096 * p.at.len)

-- the device has a disk, which has the first n units
pub record HasDisk (sizes : List ℕ) (slots : List (Option ℕ)) (d n : ℕ) : Type 0 where
  pub slot : ℕ
  pub is : slot_of slots d ≡ Some slot
  pub exists : slot < length sizes
  pub fits : unit_at n ≤ slice_index sizes slot

-- the run lies on a device's disk
abbrev pub IsOnDisk : List ℕ → List (Option ℕ) → Piece → Type 0
IsOnDisk sizes slots p = HasDisk sizes slots p.dev (p.at.start + p.at.len)
