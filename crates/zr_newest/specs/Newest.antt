-- The newest root of a pool on the disks, and what keeps it so.
use Rattle.std.specs.Prelude.{◌≡◌, ◌≢◌, ◌⊎◌, ℕ, ◌+◌, ◌<◌, ◌≤◌, true, false, List, length, Option, Some, None}
use Rattle.zr_base.specs.declared.space.DevRow.{DevRow}
use Rattle.zr_image.specs.Current.{is_device, row_at, seen_at, slots_of}
use Rattle.zr_label.specs.Blocks.{padding, uber_block}
use Rattle.zr_label.specs.Geometry.{slot_of as ring_of}
use Rattle.zr_label.specs.declared.root.Label.{Label}
use Rattle.zr_label.specs.declared.root.Seen.{Seen}
use Rattle.zr_label.specs.declared.root.Uber.{Uber}
use Rattle.zr_rules.specs.Places.{is_gone}
use Rattle.zr_scan.specs.Scan.{IsFirstLabel, IsRootFor, ShowsLabel, Stands, block_of, ring_block}
use Rattle.zr_shelf.specs.Disks.{disk}
use Rattle.zr_view.specs.Views.{slot_of}

-- ---- what stands there

-- the slot's disk has a label that names a device of the root, and the root in a ring
pub record ShowsRoot (disks : List (List ℕ)) (slot : ℕ) (u : Uber) : Type 0 where
  pub known : slot < length disks
  pub label : Label
  pub first : IsFirstLabel (length (disk disks slot)) (disk disks slot) label
  pub suits : IsRootFor label u
  pub ring : ℕ
  pub four : ring < 4
  pub stands : Stands (length (disk disks slot)) (disk disks slot) ring u

-- the labels of the slots are those that were seen
pub record HaveLabels (disks : List (List ℕ)) (seen : List Seen) : Type 0 where
  pub count : length seen ≡ length disks
  pub each : (slot : ℕ) → slot < length disks → ShowsLabel (length (disk disks slot)) (disk disks slot) (seen_at seen slot).label

-- each device of the root that is not gone has the slot whose label names it, and no other has one
abbrev pub AreAt : List (Option ℕ) → Uber → List Seen → Type 0
AreAt slots u seen = (d : ℕ) → slot_of slots d ≡ slot_of (slots_of u seen) d

-- the root stands in a ring of the slot of one of its devices, which is not gone
pub record StandsAtDevice (disks : List (List ℕ)) (u : Uber) (slots : List (Option ℕ)) : Type 0 where
  pub device : ℕ
  pub known : device < u.count
  pub there : is_gone (row_at u device).state ≡ false
  pub slot : ℕ
  pub here : slot_of slots device ≡ Some slot
  pub ring : ℕ
  pub four : ring < 4
  pub stands : Stands (length (disk disks slot)) (disk disks slot) ring u

-- each root of its pool that stands there is of an earlier group
abbrev pub IsAbove : List (List ℕ) → Uber → Type 0
IsAbove disks u = (slot : ℕ) (v : Uber) → ShowsRoot disks slot v → v.guid ≡ u.guid → v.txg < u.txg

-- The root stands on one of its devices, which are in these slots by their labels, and each other root of its pool that stands there is of an earlier group.
pub record IsNewestOn (disks : List (List ℕ)) (u : Uber) (slots : List (Option ℕ)) : Type 0 where
  pub stands : StandsAtDevice disks u slots
  pub newest : (slot : ℕ) (v : Uber) → ShowsRoot disks slot v → v.guid ≡ u.guid → (v ≡ u) ⊎ (v.txg < u.txg)
  pub seen : List Seen
  pub labels : HaveLabels disks seen
  pub devices : AreAt slots u seen

-- the rows tell of one device: it came in the same group and has as many units, and by both it is gone, or by neither
pub record IsOneDevice (a b : DevRow) : Type 0 where
  pub added : b.added ≡ a.added
  pub units : b.units ≡ a.units
  pub gone : is_gone b.state ≡ is_gone a.state

-- the root has the devices of the other: no more has changed than whether one is leaving
pub record HasSameDevices (u next : Uber) : Type 0 where
  pub guid : next.guid ≡ u.guid
  pub count : next.count ≡ u.count
  pub rows : (d : ℕ) → IsOneDevice (row_at u d) (row_at next d)

-- the root has the devices of the other that it names and that are not gone by it, each with its row and in its slot, and no other device has a slot
pub record HasOwnDevices (u own : Uber) (slots mine : List (Option ℕ)) : Type 0 where
  pub guid : own.guid ≡ u.guid
  pub there : (d : ℕ) → d < own.count → is_gone (row_at own d).state ≡ false → (d < u.count) × (row_at u d ≡ row_at own d) × (slot_of mine d ≡ slot_of slots d)
  pub gone : (d : ℕ) → d < own.count → is_gone (row_at own d).state ≡ true → slot_of mine d ≡ None
  pub past : (d : ℕ) → own.count ≤ d → slot_of mine d ≡ None

-- ---- what is written

-- the disks have their sizes and their labels
pub record KeepsLabels (before after : List (List ℕ)) : Type 0 where
  pub count : length after ≡ length before
  pub sizes : (slot : ℕ) → length (disk after slot) ≡ length (disk before slot)
  pub labels : (slot n : ℕ) → n < 4 → block_of (length (disk before slot)) (disk after slot) n ≡ block_of (length (disk before slot)) (disk before slot) n

-- and their rings
pub record KeepsRings (before after : List (List ℕ)) : Type 0 where
  pub labels : KeepsLabels before after
  pub rings : (slot n k : ℕ) → n < 4 → k < 32 → ring_block (length (disk before slot)) (disk after slot) n k ≡ ring_block (length (disk before slot)) (disk before slot) n k

-- Each ring slot keeps its block, or has that of the root, in the place of the root's group.
pub record PutsRoot (before after : List (List ℕ)) (u : Uber) : Type 0 where
  pub labels : KeepsLabels before after
  pub rings : (slot n k : ℕ) → n < 4 → k < 32
      → (ring_block (length (disk before slot)) (disk after slot) n k ≡ ring_block (length (disk before slot)) (disk before slot) n k) ⊎ ((k ≡ ring_of u.txg) × (ring_block (length (disk before slot)) (disk after slot) n k ≡ uber_block u))

-- One slot was prepared: its disk has this label, and no root stands in its rings. All other disks have their labels and their rings.
pub record PreparesSlot (before after : List (List ℕ)) (slot : ℕ) (l : Label) : Type 0 where
  pub known : slot < length before
  pub count : length after ≡ length before
  pub sizes : (other : ℕ) → length (disk after other) ≡ length (disk before other)
  pub label : IsFirstLabel (length (disk after slot)) (disk after slot) l
  pub blank : (n k : ℕ) → n < 4 → k < 32 → ring_block (length (disk after slot)) (disk after slot) n k ≡ padding 4096
  pub labels : (other n : ℕ) → other ≢ slot → n < 4 → block_of (length (disk before other)) (disk after other) n ≡ block_of (length (disk before other)) (disk before other) n
  pub rings : (other n k : ℕ) → other ≢ slot → n < 4 → k < 32 → ring_block (length (disk before other)) (disk after other) n k ≡ ring_block (length (disk before other)) (disk before other) n k

-- the next device of a root has this slot, and its label names no other device; all else is as before
pub record JoinsDevice (before : List (List ℕ)) (u next : Uber) (slots mine : List (Option ℕ)) (slot : ℕ) (l : Label) : Type 0 where
  pub guid : next.guid ≡ u.guid
  pub count : next.count ≡ u.count + 1
  pub rows : (d : ℕ) → d < u.count → row_at next d ≡ row_at u d
  pub others : (d : ℕ) → d ≢ u.count → slot_of mine d ≡ slot_of slots d
  pub own : slot_of mine u.count ≡ Some slot
  pub there : is_gone (row_at next u.count).state ≡ false
  pub named : is_device next u.count (Some l) ≡ true
  pub alone : (other : ℕ) (m : Label) → other ≢ slot → other < length before → IsFirstLabel (length (disk before other)) (disk before other) m → is_device next u.count (Some m) ≡ false
  pub free : (d : ℕ) → slot_of slots d ≢ Some slot
  pub apart : (d : ℕ) → d < u.count → is_device u d (Some l) ≡ false
