-- Slots that are prepared for the devices of a pool.
use Rattle.std.specs.Prelude.{◌≡◌, ◌≢◌, ℕ, ◌<◌, List, slice_index, slice_index_or, Some}
use Rattle.zr_image.specs.Current.{seen_at}
use Rattle.zr_label.specs.Blocks.{no_row}
use Rattle.zr_label.specs.declared.root.Label.{Label}
use Rattle.zr_label.specs.declared.root.Seen.{Seen}
use Rattle.zr_label.specs.declared.root.Uber.{Uber}
use Rattle.zr_newest.specs.Newest.{HaveLabels, ShowsRoot}
use Rattle.zr_sync.specs.declared.open.OpenPool.{OpenPool}

-- the label of a device of the pool
abbrev pub device_label : OpenPool → ℕ → Label
device_label pool d = record { guid = pool.guid; index = d; added = (slice_index_or pool.table.rows d no_row).added; units = (slice_index_or pool.table.rows d no_row).units; name = pool.name }

-- The first so many of the slots show the labels of the devices, in order, and each other slot shows what it showed.
pub record AreLabelled (seen behind : List Seen) (named : List ℕ) (count : ℕ) (pool : OpenPool) : Type 0 where
  pub own : (k : ℕ) → k < count → (seen_at behind (slice_index named k)).label ≡ Some (device_label pool k)
  pub others : (slot : ℕ) → ((k : ℕ) → k < count → slice_index named k ≢ slot) → (seen_at behind slot).label ≡ (seen_at seen slot).label

-- They were prepared: no root stands that did not stand before, and their labels are there.
pub record LabelsSlots (before after : List (List ℕ)) (named : List ℕ) (count : ℕ) (pool : OpenPool) : Type 0 where
  pub roots : (slot : ℕ) (v : Uber) → ShowsRoot after slot v → ShowsRoot before slot v
  pub labels : (seen : List Seen) → HaveLabels before seen → (behind : List Seen) × HaveLabels after behind × AreLabelled seen behind named count pool
