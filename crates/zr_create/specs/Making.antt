-- What the making of a pool wrote, wherever it stopped.
use Rattle.std.specs.Prelude.{◌≡◌, ◌⊎◌, ℕ, zero, suc, ◌<◌, true, IsTrue, List, length, slice_index, Result, Ok, None}
use Rattle.std.specs.FinMap as map
use Rattle.zr_label.specs.Blocks.{IsLabel}
use Rattle.zr_label.specs.Geometry.{is_disk_size}
use Rattle.zr_label.specs.declared.root.Label.{Label}
use Rattle.zr_label.specs.declared.root.Seen.{Seen}
use Rattle.zr_label.specs.declared.root.Uber.{Uber}
use Rattle.zr_newest.specs.Newest.{AreAt, HaveLabels, ShowsRoot}
use Rattle.zr_rules.specs.Equation.{devices_in}
use Rattle.zr_scan.specs.declared.error.ScanErr.{ScanErr}
use Rattle.zr_shelf.specs.Moments.{IsStill, World}
use Rattle.zr_slots.specs.Phases.{Prepares}
use Rattle.zr_space.specs.Paths.{AreInService}
use Rattle.zr_sync.specs.Leads.{CommitsObjects}
use Rattle.zr_sync.specs.Pools.{IsOpen}
use Rattle.zr_sync.specs.declared.open.OpenPool.{OpenPool}

-- no slot shows a root
abbrev pub HasNoRoot : List (List ℕ) → Type 0
HasNoRoot disks = (slot : ℕ) (v : Uber) → ShowsRoot disks slot v → ⊥

-- The slot was being prepared for a device of a pool, or it is.
pub record PreparesOne (sizes : List ℕ) (slot : ℕ) (r : Result (Unit {0}) ScanErr) (before now : World) : Type 0 where
  pub known : slot < length sizes
  pub used : IsTrue (is_disk_size 2 (slice_index sizes slot))
  pub label : Label
  pub lawful : IsLabel label
  pub prepares : Prepares (slice_index sizes slot) slot label r before now

-- the first so many of the slots were prepared, one behind another
abbrev pub PreparesFirst : List ℕ → List ℕ → ℕ → World → World → Type 0
PreparesFirst sizes named zero before now = now ≡ before
PreparesFirst sizes named (suc k) before now = (mid : World) × PreparesFirst sizes named k before mid × PreparesOne sizes (slice_index named k) (Ok tt) mid now

-- They were, and the next one was being prepared, or it is.
pub record PreparesInPart (sizes named : List ℕ) (before now : World) : Type 0 where
  pub count : ℕ
  pub mid : World
  pub done : PreparesFirst sizes named count before mid
  pub next : (now ≡ mid) ⊎ ((r : Result (Unit {0}) ScanErr) × PreparesOne sizes (slice_index named count) r mid now)

-- the labels that stand there name the devices of each root of the pool, in its slots
pub record NamesDevices (disks : List (List ℕ)) (pool : OpenPool) : Type 0 where
  pub seen : List Seen
  pub labels : HaveLabels disks seen
  pub devices : (v : Uber) → v.guid ≡ pool.guid → v.count ≡ pool.table.count → v.rows ≡ pool.table.rows → AreAt pool.table.slots v seen

-- All slots were prepared, and the pool, which has no root and no objects yet, was being committed.
pub record CommitsFirst (sizes named : List ℕ) (before now : World) : Type 0 where
  pub labelled : World
  pub prepared : PreparesFirst sizes named (length named) before labelled
  pub pool : OpenPool
  pub ready : IsOpen sizes pool
  pub first : pool.last ≡ None
  pub service : AreInService (devices_in pool.space)
  pub names : NamesDevices labelled.now.seen pool
  pub commits : CommitsObjects ⊥ sizes pool true map.empty labelled now

-- no slot showed a root, and then slots were being prepared, or the pool was being committed on them
pub record MakesBehind (sizes named : List ℕ) (before now : World) : Type 0 where
  pub unused : HasNoRoot before.now.seen
  pub rest : PreparesInPart sizes named before now ⊎ CommitsFirst sizes named before now

-- Wherever the making of a pool stops: nothing was done, or no slot showed a root and it was being made.
abbrev pub MakesInPart : List ℕ → List ℕ → World → World → Type 0
MakesInPart sizes named before now = (start : World) × IsStill before start × (IsStill start now ⊎ MakesBehind sizes named start now)
