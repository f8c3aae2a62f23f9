-- What a crash leaves of the slots while the next root is put into their rings.
use Rattle.std.specs.Prelude.{◌≡◌, ◌⊎◌, ℕ, ◌<◌, List, length, Ok}
use Rattle.zr_current.specs.Current.{HasSlots}
use Rattle.zr_current.specs.Next.{IsRingOf}
use Rattle.zr_image.specs.Current.{FindsCurrent, ShowsAll, slots_of}
use Rattle.zr_label.specs.declared.root.Seen.{Seen}
use Rattle.zr_label.specs.declared.root.Uber.{Uber}
use Rattle.zr_scan.specs.Scan.{block_of, ring_block}
use Rattle.zr_shelf.specs.Disks.{disk}
use Rattle.zr_sync.specs.declared.open.OpenPool.{OpenPool}

-- The image has the label blocks of the disks, and in each ring slot their block, but that in the place of the root may stand this root, or none.
pub record MayHaveRoot (disks image : List (List ℕ)) (u : Uber) : Type 0 where
  pub count : length image ≡ length disks
  pub sizes : (slot : ℕ) → length (disk image slot) ≡ length (disk disks slot)
  pub labels : (slot n : ℕ) → n < 4 → block_of (length (disk disks slot)) (disk image slot) n ≡ block_of (length (disk disks slot)) (disk disks slot) n
  pub rings : (slot n k : ℕ) → n < 4 → k < 32 → IsRingOf u k (ring_block (length (disk disks slot)) (disk disks slot) n k) (ring_block (length (disk disks slot)) (disk image slot) n k)

-- Whatever is seen of the slots, the current root is one of these two, and each device of either is where its pool has it.
pub record ShowsOneOf (image : List (List ℕ)) (last u : Uber) (first next : OpenPool) : Type 0 where
  pub one : (seen : List Seen) → ShowsAll image seen → (v : Uber) → FindsCurrent seen (Ok v) → (v ≡ last) ⊎ (v ≡ u)
  pub before : (seen : List Seen) → ShowsAll image seen → HasSlots (slots_of last seen) first.table.slots
  pub after : (seen : List Seen) → ShowsAll image seen → HasSlots (slots_of u seen) next.table.slots
