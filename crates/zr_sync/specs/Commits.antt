-- The root that a commit leaves.
use Rattle.std.specs.Prelude.{◌≡◌, ◌⊎◌, ℕ, ◌==◌, Bool, List, Option, Some, None, Contains, unwrap_or, if◌then◌else◌}
use Rattle.zr_label.specs.declared.root.Uber.{Uber}
use Rattle.zr_rules.specs.Space.{Space}
use Rattle.zr_rules.specs.Steps.{Commits}
use Rattle.zr_shelf.specs.Moments.{World, IsStill}
use Rattle.zr_vdev.specs.Stores.{KeepsOthers}
use Rattle.zr_vdev.specs.declared.kind.Kind.TheVariants.{Block, Meta}
use Rattle.zr_slots.specs.Tables.{IsSlotInBoth}
use Rattle.zr_slots.specs.Phases.{IsPublished, IsPublishedInPart}
use Rattle.zr_sync.specs.Writes.{WritesIntoFree}
use Rattle.zr_sync.specs.declared.open.OpenPool.{OpenPool}

-- The group of the last reset: a root that names none is itself one. Before the first root there is none, so the group itself is.
abbrev pub last_reset : Option Uber → ℕ → ℕ
last_reset None txg = txg
last_reset (Some u) txg = if u.reset == 0 then u.txg else u.reset

-- the root has the group, the identity and the devices of the pool, and its reset is the group where it is one
pub record IsNextRoot (pool : OpenPool) (reset : Bool) (u : Uber) : Type 0 where
  pub txg : u.txg ≡ pool.group.txg
  pub version : u.version ≡ pool.version
  pub guid : u.guid ≡ pool.guid
  pub name : u.name ≡ pool.name
  pub count : u.count ≡ pool.table.count
  pub rows : u.rows ≡ pool.table.rows
  pub reset_is : u.reset ≡ (if reset then pool.group.txg else last_reset pool.last pool.group.txg)

-- The root stands in the slots of its devices: first where the last root's devices are too.
pub record IsShownFrom (sizes : List ℕ) (pool : OpenPool) (u : Uber) (before now : World) : Type 0 where
  pub both : List ℕ
  pub all : List ℕ
  pub in_both : (slot : ℕ) → Contains both slot → IsSlotInBoth (unwrap_or pool.last u) u pool.table.slots slot
  pub all_both : (slot : ℕ) → IsSlotInBoth (unwrap_or pool.last u) u pool.table.slots slot → Contains both slot
  pub in_all : (slot : ℕ) → Contains all slot → IsSlotInBoth u u pool.table.slots slot
  pub all_all : (slot : ℕ) → IsSlotInBoth u u pool.table.slots slot → Contains all slot
  pub published : IsPublished sizes both all u before now

-- The root was to be put into these slots, and it was stopped before all of it was durable.
pub record IsShownInPart (sizes : List ℕ) (pool : OpenPool) (u : Uber) (before now : World) : Type 0 where
  pub both : List ℕ
  pub all : List ℕ
  pub in_both : (slot : ℕ) → Contains both slot → IsSlotInBoth (unwrap_or pool.last u) u pool.table.slots slot
  pub all_both : (slot : ℕ) → IsSlotInBoth (unwrap_or pool.last u) u pool.table.slots slot → Contains both slot
  pub in_all : (slot : ℕ) → Contains all slot → IsSlotInBoth u u pool.table.slots slot
  pub all_all : (slot : ℕ) → IsSlotInBoth u u pool.table.slots slot → Contains all slot
  pub published : IsPublishedInPart sizes both all u before now

-- the root was put nowhere, into some of its slots, or into all
abbrev pub PublishesRoot : List ℕ → OpenPool → Uber → World → World → Type 0
PublishesRoot sizes pool u before now = IsStill before now ⊎ (IsShownInPart sizes pool u before now ⊎ IsShownFrom sizes pool u before now)

-- A commit on the disks, wherever it stops: first blocks are written, into units that were free or the open group's, and then the next root is published.
abbrev pub WritesRoot : List ℕ → OpenPool → Bool → World → World → Type 0
WritesRoot sizes pool reset before now =
    (mid : World) × WritesIntoFree pool before mid × (IsStill mid now ⊎ ((u : Uber) × IsNextRoot pool reset u × (IsShownInPart sizes pool u mid now ⊎ IsShownFrom sizes pool u mid now)))

-- The space through a commit: the blocks of trees are put and given back, then those of metadata, and the group ends.
pub record EndsGroup (reset : Bool) (old new : Space) : Type 0 where
  pub trees : Space
  pub all : Space
  pub blocks : KeepsOthers Block old trees
  pub metadata : KeepsOthers Meta trees all
  pub ended : Commits reset all new
