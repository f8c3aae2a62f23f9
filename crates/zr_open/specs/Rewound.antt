-- The root of a checkpoint that is gone back to.
use Rattle.std.specs.Prelude.{◌≡◌, ℕ, ◌+◌, ◌==◌, if◌then◌else◌, List, Option, Some, None}
use Rattle.zr_label.specs.declared.root.Uber.{Uber}
use Rattle.zr_label.specs.Blocks.{SpellsUber}
use Rattle.zr_model.specs.State.{PoolState, Saved}
use Rattle.zr_shelf.specs.Moments.{World}
use Rattle.zr_sync.specs.Commits.{IsShownFrom}
use Rattle.zr_moves.specs.Answers as moves
use Rattle.zr_sync.specs.States.{HoldsState}
use Rattle.zr_sync.specs.declared.open.OpenPool.{OpenPool}
use Rattle.zr_meta.specs.declared.Head.{Head}
use Rattle.zr_roots.specs.Devices.{IsCut}
use Rattle.zr_open.specs.Flushed.{FlushesOnly}
use Rattle.zr_open.specs.Opened.{HasBlock, IsFresh, IsHeadOn}
use Rattle.zr_open.specs.Shown.{Shows}

-- the saved root in a later group, which is a reset; one of the first form names no reset, and stays of that form
abbrev pub rewound : Uber → ℕ → Uber
rewound saved txg = record saved { txg = txg; reset = if saved.reset == 0 then 0 else txg }

-- The pool holds the state that was saved by what the disks showed: its objects, and no checkpoint.
pub record HoldsSaved (paths before : List (List ℕ)) (tells : Type 0) (disks : List (List ℕ)) (pool : OpenPool) : Type 0 where
  pub state : PoolState
  pub shown : Shows paths before state
  pub saved : Saved
  pub saved_is : state.saved ≡ Some saved
  pub holds : HoldsState tells disks pool (moves.rewound state saved)

-- Nothing was done but flushes, and then the root of the pool was published, first where the root before it has its devices too.
pub record IsShownBehind (sizes : List ℕ) (last : Uber) (pool : OpenPool) (before now : World) : Type 0 where
  pub root : Uber
  pub root_is : pool.last ≡ Some root
  pub read : World
  pub flushes : FlushesOnly before read
  pub shown : IsShownFrom sizes (record pool { last = Some last }) root read now

-- The pool is that of the root which the head of the current one has saved, one group above that, as a reset. It has no slot of a device that was added since, or that had gone then.
pub record IsRewound (tells : Type 0) (disks : List (List ℕ)) (slots : List (Option ℕ)) (u : Uber) (pool : OpenPool) : Type 0 where
  pub block : List ℕ
  pub has : HasBlock tells disks slots u block
  pub saved : Uber
  pub spelled : SpellsUber block saved
  pub fresh : IsFresh (rewound saved (u.txg + 1)) pool
  pub own : IsCut saved slots pool.table.slots

-- what the disks show holds no checkpoint
abbrev pub ShowsNoSaved : List (List ℕ) → List (List ℕ) → Type 0
ShowsNoSaved paths disks = (state : PoolState) × Shows paths disks state × (state.saved ≡ None)

-- the head that stands there has no saved root
abbrev pub HasNoSaved : Type 0 → List (List ℕ) → List (Option ℕ) → Uber → Type 0
HasNoSaved tells disks slots u = (h : Head) × (tells → IsHeadOn disks slots u h) × (h.saved ≡ None)
