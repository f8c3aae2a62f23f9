-- What is written and flushed when labels and roots are put, in order.
--
-- The phases say how the shelf stood when each flush was done, so that a fact that a flush made durable can be used for every
-- crash behind it.
use Rattle.std.specs.Prelude.{◌≡◌, ◌⊎◌, ℕ, zero, suc, ◌+◌, ◌-◌, ◌<◌, List, length, Contains, IsTrue, slice_index, Result, Ok, Err}
use Rattle.zr_shelf.specs.Disks.{disk, PendingWrite, flushed}
use Rattle.zr_shelf.specs.Moments.{World, Steps, IsStill}
use Rattle.zr_shelf.specs.Doings.{WritesOnly}
use Rattle.zr_label.specs.Blocks.{SpellsLabel, label_block, uber_block, padding}
use Rattle.zr_label.specs.Geometry.{is_disk_size}
use Rattle.zr_label.specs.declared.root.Label.{Label}
use Rattle.zr_label.specs.declared.root.Uber.{Uber}
use Rattle.zr_scan.specs.Puts.{puts, label_place, ring_places, root_places}
use Rattle.zr_scan.specs.Scan.{Stands, block_of, ring_block}
use Rattle.zr_scan.specs.declared.error.ScanErr.{ScanErr}

-- each of these is a slot whose disk a pool can have
abbrev pub AreDisks : List ℕ → List ℕ → Type 0
AreDisks sizes slots = (k : ℕ) → k < length slots → (slice_index slots k < length sizes) × IsTrue (is_disk_size 2 (slice_index sizes (slice_index slots k)))

-- a flush was done
abbrev pub IsFlushed : World → World → Type 0
IsFlushed old new = Steps (λ a b. b ≡ flushed a) old new

-- the write puts the root into its place of the label, or of the second next to it, of one of the slots
pub record IsRootPut (sizes slots : List ℕ) (first : ℕ) (u : Uber) (w : PendingWrite) : Type 0 where
  pub slot : ℕ
  pub among : Contains slots slot
  pub put : Contains (puts slot (root_places (slice_index sizes slot) first u.txg) (uber_block u)) w

-- the root reads back from these labels of each of the slots
pub record HaveRoot (sizes slots : List ℕ) (first : ℕ) (u : Uber) (disks : List (List ℕ)) : Type 0 where
  pub one : (slot : ℕ) → Contains slots slot → Stands (slice_index sizes slot) (disk disks slot) first u
  pub other : (slot : ℕ) → Contains slots slot → Stands (slice_index sizes slot) (disk disks slot) (first + 2) u

-- A root is published: a flush, the root in labels 0 and 2 of the slots that know the last root too, a flush, the root in labels 1 and 3 of all slots,
-- a flush. So there is no moment at which a crash finds neither the last root nor this one.
pub record IsPublished (sizes both all : List ℕ) (u : Uber) (old new : World) : Type 0 where
  pub first : World
  pub half : World
  pub second : World
  pub whole : World
  pub before : IsFlushed old first
  pub wrote : WritesOnly (IsRootPut sizes both 0 u) first half
  pub between : IsFlushed half second
  pub rest : WritesOnly (IsRootPut sizes all 1 u) second whole
  pub behind : IsFlushed whole new
  pub durable : HaveRoot sizes both 0 u second.now.durable
  pub all_durable : HaveRoot sizes all 1 u new.now.durable

-- it was stopped before the second flush
pub record IsPublishedToHalf (sizes both : List ℕ) (u : Uber) (old new : World) : Type 0 where
  pub first : World
  pub before : IsFlushed old first
  pub wrote : WritesOnly (IsRootPut sizes both 0 u) first new

-- it was stopped between the second flush and the last
pub record IsPublishedAlmost (sizes both all : List ℕ) (u : Uber) (old new : World) : Type 0 where
  pub first : World
  pub half : World
  pub second : World
  pub before : IsFlushed old first
  pub wrote : WritesOnly (IsRootPut sizes both 0 u) first half
  pub between : IsFlushed half second
  pub rest : WritesOnly (IsRootPut sizes all 1 u) second new
  pub durable : HaveRoot sizes both 0 u second.now.durable

-- nothing was written, or the root not durably in any label, or durably in the first ones
abbrev pub IsPublishedInPart : List ℕ → List ℕ → List ℕ → Uber → World → World → Type 0
IsPublishedInPart sizes both all u old new = IsStill old new ⊎ (IsPublishedToHalf sizes both u old new ⊎ IsPublishedAlmost sizes both all u old new)

abbrev pub Publishes : List ℕ → List ℕ → List ℕ → Uber → Result (Unit {0}) ScanErr → World → World → Type 0
Publishes sizes both all u (Ok done) = IsPublished sizes both all u
Publishes sizes both all u (Err e) = IsPublishedInPart sizes both all u

-- zeros over the rings of the slot, and one of its label blocks
abbrev pub IsRingPut : ℕ → ℕ → PendingWrite → Type 0
IsRingPut size slot = Contains (puts slot (ring_places size) (padding 131072))

abbrev pub IsLabelPut : ℕ → ℕ → ℕ → Label → PendingWrite → Type 0
IsLabelPut size slot n l = Contains (puts slot (label_place size n) (label_block l))

-- a label block was put and a flush was done, so it stands there; or it may have been put
abbrev pub SettlesLabel : ℕ → ℕ → ℕ → Label → Result (Unit {0}) ScanErr → World → World → Type 0
SettlesLabel size slot n l (Ok done) old new = (put : World) × WritesOnly (IsLabelPut size slot n l) old put × IsFlushed put new × SpellsLabel (block_of size (disk new.now.seen slot) n) l
SettlesLabel size slot n l (Err e) old new = WritesOnly (IsLabelPut size slot n l) old new

-- The last so many of the four label blocks were put, from the last one on, each durable before the next.
abbrev pub PutsLast : ℕ → ℕ → ℕ → Label → World → World → Type 0
PutsLast size slot zero l old new = new ≡ old
PutsLast size slot (suc k) l old new = (mid : World) × PutsLast size slot k l old mid × SettlesLabel size slot (3 - k) l (Ok tt) mid new

-- all of them were, or it was stopped behind the last few
abbrev pub PutsLabels : ℕ → ℕ → Label → Result (Unit {0}) ScanErr → World → World → Type 0
PutsLabels size slot l (Ok done) old new = PutsLast size slot 4 l old new
PutsLabels size slot l (Err e) old new = (k : ℕ) × (k < 4) × (mid : World) × PutsLast size slot k l old mid × WritesOnly (IsLabelPut size slot (3 - k) l) mid new

-- no root stands in the rings of the slot
abbrev pub AreCleared : ℕ → ℕ → List (List ℕ) → Type 0
AreCleared size slot disks = (n k : ℕ) → n < 4 → k < 32 → ring_block size (disk disks slot) n k ≡ padding 4096

-- A slot is prepared: its rings are cleared, a flush, its labels are put. So there is no moment at which a crash finds the new label over old roots, and none at which it finds an old label
-- that did not count before behind one that is torn.
pub record IsPrepared (size slot : ℕ) (l : Label) (old new : World) : Type 0 where
  pub cleared : World
  pub first : World
  pub rings : WritesOnly (IsRingPut size slot) old cleared
  pub between : IsFlushed cleared first
  pub blank : AreCleared size slot first.now.seen
  pub labels : PutsLabels size slot l (Ok tt) first new

-- it was stopped behind the first flush
pub record IsPreparedToHalf (size slot : ℕ) (l : Label) (old new : World) : Type 0 where
  pub cleared : World
  pub first : World
  pub rings : WritesOnly (IsRingPut size slot) old cleared
  pub between : IsFlushed cleared first
  pub blank : AreCleared size slot first.now.seen
  pub k : ℕ
  pub few : k < 4
  pub mid : World
  pub last : PutsLast size slot k l first mid
  pub labels : WritesOnly (IsLabelPut size slot (3 - k) l) mid new

abbrev pub Prepares : ℕ → ℕ → Label → Result (Unit {0}) ScanErr → World → World → Type 0
Prepares size slot l (Ok done) = IsPrepared size slot l
Prepares size slot l (Err e) = λ old new. WritesOnly (IsRingPut size slot) old new ⊎ IsPreparedToHalf size slot l old new
