-- What the adding of a device wrote, wherever it stopped.
use Rattle.std.specs.Prelude.{◌≡◌, ◌≢◌, ◌⊎◌, ℕ, ◌<◌, true, false, IsTrue, List, length, Result, Ok, slice_index, Some}
use Rattle.zr_label.specs.Blocks.{IsLabel}
use Rattle.zr_label.specs.Geometry.{is_disk_size}
use Rattle.zr_label.specs.declared.root.Label.{Label}
use Rattle.zr_model.specs.Objects.{Objects}
use Rattle.zr_newest.specs.Newest.{PreparesSlot}
use Rattle.zr_scan.specs.Scan.{IsFirstLabel}
use Rattle.zr_scan.specs.declared.error.ScanErr.{ScanErr}
use Rattle.zr_shelf.specs.Disks.{disk}
use Rattle.zr_shelf.specs.Moments.{IsStill, World}
use Rattle.zr_slots.specs.Phases.{Prepares}
use Rattle.zr_sync.specs.Ends.{EndsCommitted}
use Rattle.zr_sync.specs.Leads.{CommitsObjects}
use Rattle.zr_sync.specs.Pools.{IsOpen}
use Rattle.zr_sync.specs.Trees.{HasLastTrees}
use Rattle.zr_sync.specs.declared.open.OpenPool.{OpenPool}
use Rattle.zr_view.specs.Views.{slot_of}
use Rattle.zr_create.specs.Devices.{TakesOn, next_label}

-- The slot can be the pool's next device, which the open group adds: it has a disk and no device of the pool, the table has room, and no other slot has a label of the device's identity.
pub record IsNextSlot (sizes : List ℕ) (disks : List (List ℕ)) (pool : OpenPool) (slot units : ℕ) : Type 0 where
  pub known : slot < length disks
  pub used : IsTrue (is_disk_size 2 (slice_index sizes slot))
  pub free : (d : ℕ) → slot_of pool.table.slots d ≢ Some slot
  pub few : pool.table.count < 32
  pub lawful : IsLabel (next_label pool units)
  pub alone : (other : ℕ) (m : Label) → other ≢ slot → other < length disks → IsFirstLabel (length (disk disks other)) (disk disks other) m → m.guid ≡ pool.guid → m.index ≡ pool.table.count → m.added ≡ pool.group.txg → ⊥

-- the slot was being prepared for the pool's next device, or it is
abbrev pub PreparesNext : List ℕ → ℕ → ℕ → OpenPool → World → World → Type 0
PreparesNext sizes slot units pool before now = (r : Result (Unit {0}) ScanErr) × Prepares (slice_index sizes slot) slot (next_label pool units) r before now

-- It was, and the pool with that device was being committed with these objects, by a reset. Where enough is told of the streams before, what it leads to tells of removed devices.
pub record CommitsNext (Told : Type 0) (sizes : List ℕ) (objects : Objects) (slot units : ℕ) (pool : OpenPool) (before now : World) : Type 0 where
  pub labelled : World
  pub prepared : Prepares (slice_index sizes slot) slot (next_label pool units) (Ok tt) before labelled
  pub labels : PreparesSlot before.now.seen labelled.now.seen slot (next_label pool units)
  pub taken : OpenPool
  pub ready : IsOpen sizes taken
  pub takes : TakesOn slot units pool taken
  pub commits : CommitsObjects Told sizes taken true objects labelled now

-- the open group was committed with these objects, and a slot was being made the next device
pub record AddsBehind (sizes : List ℕ) (objects : Objects) (slot : ℕ) (old : OpenPool) (before now : World) : Type 0 where
  pub ended : OpenPool
  pub mid : World
  pub first : EndsCommitted sizes false old ended objects before mid
  pub units : ℕ
  pub next : IsNextSlot sizes mid.now.seen ended slot units
  pub rest : PreparesNext sizes slot units ended mid now ⊎ CommitsNext (HasLastTrees before.now.seen old) sizes objects slot units ended mid now

-- Wherever the adding of a device stops: nothing was done, the open group was being committed with these objects, or it was and the slot was being made the next device.
abbrev pub AddsInPart : List ℕ → Objects → ℕ → OpenPool → World → World → Type 0
AddsInPart sizes objects slot old before now = (start : World) × IsStill before start × (IsStill start now ⊎ (CommitsObjects (HasLastTrees start.now.seen old) sizes old false objects start now ⊎ AddsBehind sizes objects slot old start now))
