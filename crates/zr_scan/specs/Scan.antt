-- What a slot shows, by the bytes of its disk and its size.
use Rattle.std.specs.Prelude.{◌≡◌, ◌↔◌, ◌<◌, ◌≤◌, ℕ, List, [], false, Option, Some, None, IfSome, IfNone, MatchOption, length, Contains, slice_index_or}
use Rattle.zr_base.specs.declared.space.DevRow.{DevRow}
use Rattle.zr_rules.specs.Places.{is_gone}
use Rattle.zr_shelf.specs.Disks.{part}
use Rattle.zr_label.specs.Blocks.{IsLabel, IsUber, SpellsLabel, SpellsUber, SpellsNewer, no_row}
use Rattle.zr_label.specs.Geometry.{units_of_size, label_block_at, ring_slot_at, slot_of}
use Rattle.zr_label.specs.declared.root.Label.{Label}
use Rattle.zr_label.specs.declared.root.Uber.{Uber}
use Rattle.zr_label.specs.declared.root.Newer.{Newer}
use Rattle.zr_label.specs.declared.root.Seen.{Seen}

-- the block of label n
abbrev pub block_of : ℕ → List ℕ → ℕ → List ℕ
block_of size bytes n = part bytes (label_block_at size n) 4096

-- block k of the ring of label n
abbrev pub ring_block : ℕ → List ℕ → ℕ → ℕ → List ℕ
ring_block size bytes n k = part bytes (ring_slot_at size n k) 4096

-- the block is a label that names the units of the disk
pub record IsLabelOf (size : ℕ) (block : List ℕ) (l : Label) : Type 0 where
  pub spelled : SpellsLabel block l
  pub units : units_of_size size 2 ≡ Some l.units

-- none of the first n label blocks is one
abbrev pub HasNoLabel : ℕ → List ℕ → ℕ → Type 0
HasNoLabel size bytes n = (k : ℕ) → k < n → (l : Label) → ¬ IsLabelOf size (block_of size bytes k) l

-- the first of the four that is one
pub record IsFirstLabel (size : ℕ) (bytes : List ℕ) (l : Label) : Type 0 where
  pub label : ℕ
  pub four : label < 4
  pub here : IsLabelOf size (block_of size bytes label) l
  pub before : HasNoLabel size bytes label

abbrev pub ShowsLabel : ℕ → List ℕ → Option Label → Type 0
ShowsLabel size bytes found = MatchOption found (HasNoLabel size bytes 4) (IsFirstLabel size bytes)

-- what a root records of the device of a label
abbrev pub row_of : Label → Uber → DevRow
row_of l u = slice_index_or u.rows l.index no_row

-- a root of the label's pool, in whose table the device is in service or leaving
pub record IsRootFor (l : Label) (u : Uber) : Type 0 where
  pub pool : u.guid ≡ l.guid
  pub index : l.index < u.count
  pub added : (row_of l u).added ≡ l.added
  pub concrete : is_gone (row_of l u).state ≡ false

-- the root stands in the ring of label n, in the slot of its group
abbrev pub Stands : ℕ → List ℕ → ℕ → Uber → Type 0
Stands size bytes n u = SpellsUber (ring_block size bytes n (slot_of u.txg)) u

-- the roots of the first n rings that are for the label, each at least once
pub record AreRoots (size : ℕ) (bytes : List ℕ) (n : ℕ) (l : Label) (us : List Uber) : Type 0 where
  pub each : (u : Uber) → Contains us u → IsRootFor l u × (k : ℕ) × (k < n) × Stands size bytes k u
  pub all : (u : Uber) (k : ℕ) → k < n → Stands size bytes k u → IsRootFor l u → Contains us u

-- a root of the pool of an unknown version stands in the ring of label n, in the slot of its group
abbrev pub StandsNewer : ℕ → List ℕ → ℕ → ℕ → ℕ → ℕ → Type 0
StandsNewer size bytes guid n version txg = SpellsNewer (ring_block size bytes n (slot_of txg)) guid version txg

-- of those in the first n rings one of the highest group, and of these the first
pub record IsNewest (size : ℕ) (bytes : List ℕ) (n guid : ℕ) (x : Newer) : Type 0 where
  pub label : ℕ
  pub among : label < n
  pub stands : StandsNewer size bytes guid label x.version x.txg
  pub highest : (k version txg : ℕ) → k < n → StandsNewer size bytes guid k version txg → txg ≤ x.txg
  pub first : (k version : ℕ) → k < label → ¬ StandsNewer size bytes guid k version x.txg

-- none stands in the first n rings
abbrev pub HasNoNewer : ℕ → List ℕ → ℕ → ℕ → Type 0
HasNoNewer size bytes n guid = (k version txg : ℕ) → k < n → ¬ StandsNewer size bytes guid k version txg

abbrev pub ShowsNewer : ℕ → List ℕ → ℕ → ℕ → Option Newer → Type 0
ShowsNewer size bytes n guid found = MatchOption found (HasNoNewer size bytes n guid) (IsNewest size bytes n guid)

-- a lawful label that names the units of a disk of this size
pub record IsOwnLabel (size : ℕ) (l : Label) : Type 0 where
  pub lawful : IsLabel l
  pub units : units_of_size size 2 ≡ Some l.units

-- a lawful root that is for the label
pub record IsOwnRoot (l : Label) (u : Uber) : Type 0 where
  pub lawful : IsUber u
  pub suits : IsRootFor l u

-- what was seen is lawful, whatever the disk has, and little
pub record IsSmallAndLawful (size : ℕ) (seen : Seen) : Type 0 where
  pub label : IfSome seen.label (IsOwnLabel size)
  pub roots : MatchOption seen.label (seen.ubers ≡ []) (λ l. (u : Uber) → Contains seen.ubers u → IsOwnRoot l u)
  pub newer : IfNone seen.label (seen.newer ≡ None)
  pub few : length seen.ubers ≤ 128

-- What a slot shows. Without a label it shows no roots.
pub record Shows (size : ℕ) (bytes : List ℕ) (seen : Seen) : Type 0 where
  pub label : ShowsLabel size bytes seen.label
  pub roots : MatchOption seen.label (seen.ubers ≡ []) (λ l. AreRoots size bytes 4 l seen.ubers)
  pub newer : MatchOption seen.label (seen.newer ≡ None) (λ l. ShowsNewer size bytes 4 l.guid seen.newer)

-- the label, one root, and nothing of an unknown version
pub record ShowsJust (l : Label) (u : Uber) (seen : Seen) : Type 0 where
  pub label : seen.label ≡ Some l
  pub root : (v : Uber) → Contains seen.ubers v ↔ (v ≡ u)
  pub newer : seen.newer ≡ None
