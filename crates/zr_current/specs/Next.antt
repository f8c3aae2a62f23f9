-- What the slots show once the next root of a pool was published.
use Rattle.std.specs.Prelude.{◌≡◌, ◌⊎◌, ℕ, ◌+◌, ◌<◌, ◌≤◌, List, length, Some}
use Rattle.zr_image.specs.Current.{IsShown, IsShownAt, seen_at}
use Rattle.zr_image.specs.Honest.{IsMark, Mark}
use Rattle.zr_label.specs.Blocks.{uber_block}
use Rattle.zr_label.specs.Geometry.{slot_of}
use Rattle.zr_label.specs.declared.root.Label.{Label}
use Rattle.zr_label.specs.declared.root.Newer.{Newer}
use Rattle.zr_label.specs.declared.root.Seen.{Seen}
use Rattle.zr_label.specs.declared.root.Uber.{Uber}
use Rattle.zr_scan.specs.Scan.{IsRootFor, Stands, block_of, ring_block}
use Rattle.zr_shelf.specs.Disks.{disk}

-- the root is the next one of the same pool, with the same devices
pub record IsNextOf (last u : Uber) : Type 0 where
  pub txg : u.txg ≡ last.txg + 1
  pub guid : u.guid ≡ last.guid
  pub count : u.count ≡ last.count
  pub rows : u.rows ≡ last.rows

-- the block is no label and no root
abbrev pub IsNoMark : List ℕ → Type 0
IsNoMark block = (m : Mark) → ¬ IsMark block m

-- a ring slot keeps its block, or it is the place of the root, which stands there, or no root does
abbrev pub IsRingOf : Uber → ℕ → List ℕ → List ℕ → Type 0
IsRingOf u k old new = (new ≡ old) ⊎ ((k ≡ slot_of u.txg) × ((new ≡ uber_block u) ⊎ IsNoMark new))

-- The disks keep their label blocks. A ring slot keeps its block, or it has that of the root, in the place of the root's group.
pub record PutsRoot (before after : List (List ℕ)) (u : Uber) : Type 0 where
  pub count : length after ≡ length before
  pub sizes : (slot : ℕ) → length (disk after slot) ≡ length (disk before slot)
  pub labels : (slot n : ℕ) → n < 4 → block_of (length (disk before slot)) (disk after slot) n ≡ block_of (length (disk before slot)) (disk before slot) n
  pub rings : (slot n k : ℕ) → n < 4 → k < 32
      → (ring_block (length (disk before slot)) (disk after slot) n k ≡ ring_block (length (disk before slot)) (disk before slot) n k) ⊎ ((k ≡ slot_of u.txg) × (ring_block (length (disk before slot)) (disk after slot) n k ≡ uber_block u))

-- the root stands in a ring of a slot whose label names a device of it
pub record StandsSomewhere (disks : List (List ℕ)) (seen : List Seen) (u : Uber) : Type 0 where
  pub slot : ℕ
  pub known : slot < length seen
  pub ring : ℕ
  pub four : ring < 4
  pub stands : Stands (length (disk disks slot)) (disk disks slot) ring u
  pub label : Label
  pub label_is : (seen_at seen slot).label ≡ Some label
  pub suits : IsRootFor label u

-- The slots show the labels that they showed. Each root that one shows it showed before, or it is this one, and some slot shows this one. No root of an unknown version
-- came that is newer than the one that was there.
pub record ShowsNext (seen next : List Seen) (u : Uber) : Type 0 where
  pub count : length next ≡ length seen
  pub labels : (slot : ℕ) → (seen_at next slot).label ≡ (seen_at seen slot).label
  pub roots : (slot : ℕ) (v : Uber) → IsShownAt next slot v → IsShownAt seen slot v ⊎ (v ≡ u)
  pub newer : (slot : ℕ) (x : Newer) → (seen_at next slot).newer ≡ Some x → (y : Newer) × ((seen_at seen slot).newer ≡ Some y) × (x.txg ≤ y.txg)
  pub shown : IsShown next u
