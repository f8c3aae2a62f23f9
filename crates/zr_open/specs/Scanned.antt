-- What the slots show, and the pool that is found by it.
use Rattle.std.specs.Prelude.{◌≡◌, ℕ, List, length, Ok}
use Rattle.zr_image.specs.Current.{FindsCurrent, slots_of}
use Rattle.zr_label.specs.Blocks.{IsUber}
use Rattle.zr_slots.specs.Checks.{AreLawful}
use Rattle.zr_current.specs.Current.{HasSlots}
use Rattle.zr_roots.specs.Devices.{HasItsDisks}
use Rattle.zr_open.specs.Found.{IsSeen}
use Rattle.zr_open.specs.declared.find.Scanned.{Scanned}

-- Each slot shows what its disk can show, and by that a root is current, each of whose devices has its disk.
pub record IsScanned (sizes : List ℕ) (tells : Type 0) (disks : List (List ℕ)) (s : Scanned) : Type 0 where
  pub shown : IsSeen sizes tells disks s.seen
  pub lawful : AreLawful s.seen
  pub finds : FindsCurrent s.seen (Ok s.found.root)
  pub slots : HasSlots (slots_of s.found.root s.seen) s.found.slots
  pub uber : IsUber s.found.root
  pub long : length s.found.slots ≡ 32
  pub mounted : HasItsDisks sizes s.found.slots s.found.root
