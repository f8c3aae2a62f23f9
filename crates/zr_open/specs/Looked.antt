-- A pool that was looked at, and could be opened.
use Rattle.std.specs.Prelude.{◌≡◌, ℕ, ◌+◌, ◌^◌, ◌≤◌, List, [], All, length, Ok}
use Rattle.zr_image.specs.Current.{slots_of}
use Rattle.zr_image.specs.Roots.{rows_of}
use Rattle.zr_label.specs.Blocks.{IsUber}
use Rattle.zr_meta.specs.Heads.{IsHead}
use Rattle.zr_sync.specs.Pools.{IsOpen}
use Rattle.zr_open.specs.declared.look.Looked.{Looked}
use Rattle.zr_current.specs.Current.{HasSlots}
use Rattle.zr_open.specs.Found.{FindsOn}
use Rattle.zr_open.specs.Opened.{CoversOwed, IsFresh}
use Rattle.zr_judge.specs.Parts.{HasMapping}
use Rattle.zr_roots.specs.Devices.{HasItsDisks}
use Rattle.zr_roots.specs.Standing.{Stands}
use Rattle.zr_open.specs.Roots.{HasParts, IsBeside, IsKept, meta_of}

-- In the trees of the root stands what it records, and it was found so with what is saved beside it. The pool is open on that.
pub record IsLookedAt (sizes : List ℕ) (tells : Type 0) (disks : List (List ℕ)) (l : Looked) : Type 0 where
  pub uber : IsUber l.found.root
  pub long : length l.found.slots ≡ 32
  pub mounted : HasItsDisks sizes l.found.slots l.found.root
  pub head : IsHead (rows_of l.found.root) l.root.head
  pub mapped : All HasMapping l.root.parts.devs
  pub stands : tells → Stands disks l.found.slots l.found.root l.root
  pub beside : IsBeside tells disks l.found.slots l.found.root l.root l.saved
  pub ready : IsOpen sizes l.pool
  pub fresh : IsFresh l.found.root l.pool
  pub parts : HasParts l.root (meta_of l.saved) l.pool
  pub kept : IsKept l.saved l.pool.saved
  pub same : l.pool.table.slots ≡ l.found.slots
  pub room : CoversOwed l.pool.space
  pub groups : l.pool.group.txg ≤ 2 ^ 63 + 1

-- it was looked at, on some disks
abbrev pub WasLookedAt : List ℕ → Looked → Type 0
WasLookedAt sizes l = IsLookedAt sizes ⊥ [] l

-- The slots show its root, by which it was looked at.
pub record IsLooked (sizes : List ℕ) (tells : Type 0) (disks : List (List ℕ)) (l : Looked) : Type 0 where
  pub finds : FindsOn sizes tells disks (Ok l.found.root)
  pub slots : HasSlots (slots_of l.found.root finds.seen) l.found.slots
  pub at : IsLookedAt sizes tells disks l
