-- A device more.
use Rattle.std.specs.Prelude.{◌≡◌, ℕ, ◌+◌, ◌<◌, List, [], ◌∷◌, ◌++◌, length, slice_set, slice_index, slice_index_or, IsTrue, Some}
use Rattle.zr_base.specs.declared.space.DevRow.{DevRow}
use Rattle.zr_base.specs.declared.space.DevState.TheVariants.{On}
use Rattle.zr_label.specs.Blocks.{no_row}
use Rattle.zr_label.specs.Geometry.{units_of_size, is_disk_size}
use Rattle.zr_label.specs.declared.root.Label.{Label}
use Rattle.zr_rules.specs.Space.{opened_of}
use Rattle.zr_rules.specs.Steps as steps
use Rattle.zr_view.specs.Views.{slot_of}
use Rattle.zr_sync.specs.Empty.{no_streams}
use Rattle.zr_sync.specs.declared.open.Table.{Table}
use Rattle.zr_sync.specs.declared.open.OpenPool.{OpenPool}

-- a device in service that the group added
abbrev pub new_row : ℕ → ℕ → DevRow
new_row units txg = record { state = On; added = txg; units = units; gone = 0 }

-- the table with a device more
abbrev pub with_device : Table → ℕ → DevRow → Table
with_device t slot row = record { count = t.count + 1; rows = slice_set t.rows t.count row; slots = slice_set t.slots t.count (Some slot) }

-- the label of the pool's next device, which the open group adds
abbrev pub next_label : OpenPool → ℕ → Label
next_label pool units = record { guid = pool.guid; index = pool.table.count; added = pool.group.txg; units = units; name = pool.name }

-- The open group has added a device with so many units, which is in this slot and has streams of no words. All else is the same.
pub record TakesOn (slot units : ℕ) (old new : OpenPool) : Type 0 where
  pub name : new.name ≡ old.name
  pub guid : new.guid ≡ old.guid
  pub version : new.version ≡ old.version
  pub table : new.table ≡ with_device old.table slot (new_row units old.group.txg)
  pub space : steps.AddsDevice old.space new.space units old.group.txg
  pub opened : (d : ℕ) → opened_of new.space d ≡ opened_of old.space d
  pub group : new.group ≡ old.group
  pub last : new.last ≡ old.last
  pub cache : new.cache ≡ old.cache
  pub dir : new.dir ≡ old.dir
  pub head : new.head ≡ old.head
  pub streams : new.streams.items ≡ old.streams.items ++ no_streams ∷ []
  pub cond : new.cond ≡ old.cond
  pub saved : new.saved ≡ old.saved
  pub turned : new.turned ≡ old.turned

-- The device is in this slot and in service, with the units of its disk, and the group added it.
pub record IsDeviceIn (sizes : List ℕ) (txg : ℕ) (pool : OpenPool) (index slot : ℕ) : Type 0 where
  pub slot_is : slot_of pool.table.slots index ≡ Some slot
  pub units : ℕ
  pub units_are : units_of_size (slice_index sizes slot) pool.version ≡ Some units
  pub row_is : slice_index_or pool.table.rows index no_row ≡ new_row units txg

-- the devices of the pool are in these slots, in order, and the group added them
pub record HasDevicesIn (sizes : List ℕ) (txg : ℕ) (slots : List ℕ) (pool : OpenPool) : Type 0 where
  pub count : pool.table.count ≡ length slots
  pub each : (k : ℕ) → k < length slots → IsDeviceIn sizes txg pool k (slice_index slots k)

-- the pool has one device more, in this slot, which the group after the open one added
pub record Grows (sizes : List ℕ) (slot : ℕ) (old new : OpenPool) : Type 0 where
  pub name : new.name ≡ old.name
  pub guid : new.guid ≡ old.guid
  pub version : new.version ≡ old.version
  pub units : ℕ
  pub units_are : units_of_size (slice_index sizes slot) old.version ≡ Some units
  pub table : new.table ≡ with_device old.table slot (new_row units (old.group.txg + 1))
  pub ckpt : new.space.parts.ckpt ≡ old.space.parts.ckpt

-- all is the same but the devices
pub record KeepsRest (old new : OpenPool) : Type 0 where
  pub ckpt : new.space.parts.ckpt ≡ old.space.parts.ckpt
  pub name : new.name ≡ old.name
  pub guid : new.guid ≡ old.guid
  pub version : new.version ≡ old.version
  pub group : new.group ≡ old.group
  pub last : new.last ≡ old.last
  pub cache : new.cache ≡ old.cache
  pub dir : new.dir ≡ old.dir
  pub head : new.head ≡ old.head

-- each of these slots has a disk that a pool of the version can have
abbrev pub HaveDisks : List ℕ → ℕ → List ℕ → Type 0
HaveDisks sizes version slots = (k : ℕ) → k < length slots → IsTrue (is_disk_size version (slice_index sizes (slice_index slots k)))
