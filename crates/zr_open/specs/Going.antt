-- What the disks have been through while a pool is gone back to, wherever that stops.
use Rattle.std.specs.Prelude.{◌≡◌, ◌⊎◌, ℕ, ◌+◌, List, length, map, Some}
use Rattle.zr_current.specs.Current.{GoesOnFrom}
use Rattle.zr_label.specs.declared.root.Seen.{Seen}
use Rattle.zr_label.specs.declared.root.Uber.{Uber}
use Rattle.zr_model.specs.Objects.{Objects}
use Rattle.zr_model.specs.State.{PoolState, Saved}
use Rattle.zr_newest.specs.Newest.{AreAt, HaveLabels, IsNewestOn}
use Rattle.zr_shelf.specs.Disks.{IsAtRest, Stand}
use Rattle.zr_shelf.specs.Moments.{IsStill, World}
use Rattle.zr_sync.specs.Commits.{PublishesRoot}
use Rattle.zr_sync.specs.Objects.{HoldsObjects}
use Rattle.zr_sync.specs.Pools.{IsOpen}
use Rattle.zr_sync.specs.declared.open.OpenPool.{OpenPool}
use Rattle.zr_open.specs.Flushed.{FlushesOnly}
use Rattle.zr_open.specs.Groups.{HoldsRoot}
use Rattle.zr_open.specs.Left.{IsLeftCommitted}
use Rattle.zr_open.specs.Opened.{IsFresh}
use Rattle.zr_open.specs.Rewound.{rewound}
use Rattle.zr_open.specs.Shown.{Shows, ShowsGroup}
use Rattle.zr_open.specs.declared.look.Looked.{Looked}

-- The disks have a pool by this root, whether or not the slots show it: the pool is open and goes on from the root, they hold these objects of it, and it stands as a commit left it.
pub record HasPool (sizes : List ℕ) (now : Stand) (u : Uber) (pool : OpenPool) (objects : Objects) : Type 0 where
  pub ready : IsOpen sizes pool
  pub from : GoesOnFrom u pool
  pub holds : HoldsObjects (Unit {0}) now.seen pool objects
  pub leaves : IsLeftCommitted now pool

-- The disks have the pool of the current root, which is the newest of it there, and another one by a root that is one group above. Its devices are where the labels say. That root was put
-- nowhere, into some of the slots, or into all: first where the current root's devices are too.
pub record PutsBack (sizes : List ℕ) (before after : Objects) (read now : World) : Type 0 where
  pub sized : map length read.now.seen ≡ sizes
  pub current : Uber
  pub pool : OpenPool
  pub has : HasPool sizes read.now current pool before
  pub newest : IsNewestOn read.now.seen current pool.table.slots
  pub root : Uber
  pub back : OpenPool
  pub has_back : HasPool sizes read.now root back after
  pub txg : root.txg ≡ current.txg + 1
  pub seen : List Seen
  pub labels : HaveLabels read.now.seen seen
  pub devices : AreAt back.table.slots root seen
  pub puts : PublishesRoot sizes (record back { last = Some current }) root read now

-- Flushes left the disks at rest. They showed a pool that had saved another, and the root of what was saved was put behind the current one.
pub record RewindsBehind (sizes : List ℕ) (before now : World) : Type 0 where
  pub read : World
  pub flushes : FlushesOnly before read
  pub rest : IsAtRest read.now
  pub state : PoolState
  pub shown : Shows before.now.paths before.now.seen state
  pub saved : Saved
  pub saved_is : state.saved ≡ Some saved
  pub puts : PutsBack sizes state.objects saved.objects read now

-- Flushes left the disks at rest. They showed a pool, and another one by the root of a group that was kept, and that root was put behind the current one.
pub record GoesBackBehind (sizes : List ℕ) (txg : ℕ) (before now : World) : Type 0 where
  pub read : World
  pub flushes : FlushesOnly before read
  pub rest : IsAtRest read.now
  pub state : PoolState
  pub shown : Shows before.now.paths before.now.seen state
  pub group : PoolState
  pub group_shown : ShowsGroup before.now.paths before.now.seen txg group
  pub puts : PutsBack sizes state.objects group.objects read now

-- wherever going back to the checkpoint stops: nothing was done but flushes, or the saved root was put behind them
abbrev pub RewindsInPart : List ℕ → World → World → Type 0
RewindsInPart sizes before now = FlushesOnly before now ⊎ RewindsBehind sizes before now

-- wherever going back to a group stops: nothing was done but flushes, or its root was put behind them
abbrev pub GoesBackInPart : List ℕ → ℕ → World → World → Type 0
GoesBackInPart sizes txg before now = FlushesOnly before now ⊎ GoesBackBehind sizes txg before now

-- A pool was opened by the root that was looked at, one group above another root and as a reset: the disks hold what they mean by the former, and it stands as a commit left it.
-- Its root was put nowhere, into some of the slots, or into all.
pub record PutsAgain (sizes : List ℕ) (current : Uber) (l : Looked) (read now : World) : Type 0 where
  pub back : OpenPool
  pub ready : IsOpen sizes back
  pub fresh : IsFresh (rewound l.found.root (current.txg + 1)) back
  pub placed : back.table.slots ≡ l.found.slots
  pub holds : HoldsRoot read.now.seen (Unit {0}) read.now.seen l back
  pub leaves : IsLeftCommitted read.now back
  pub puts : PublishesRoot sizes (record back { last = Some current }) (rewound l.found.root (current.txg + 1)) read now

-- the root that was looked at is opened again, wherever it stops: nothing was done, or it was put behind the other
abbrev pub ResetsInPart : List ℕ → Uber → Looked → World → World → Type 0
ResetsInPart sizes current l before now = IsStill before now ⊎ PutsAgain sizes current l before now
