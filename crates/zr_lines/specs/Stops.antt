-- What a line leaves for a crash: it works in one group, or ends one by a reset.
use Rattle.std.specs.Prelude.{◌≡◌, ◌⊎◌, ℕ, true, false, List}
use Rattle.zr_last.specs.Last.{KeepsDevices, KeepsRoot}
use Rattle.zr_sync.specs.Copies.{KeepsCopies}
use Rattle.zr_sync.specs.Ends.{EndsCommitted}
use Rattle.zr_model.specs.Objects.{Objects}
use Rattle.zr_rules.specs.Space.{role_at}
use Rattle.zr_shelf.specs.Moments.{IsStill, World}
use Rattle.zr_sync.specs.Leads.{CommitsObjects}
use Rattle.zr_sync.specs.Pools.{IsOpen}
use Rattle.zr_sync.specs.Trees.{HasLastTrees, HasTrees}
use Rattle.zr_sync.specs.Trees.Stage.{Had}
use Rattle.zr_sync.specs.Writes.{WritesIntoFree}
use Rattle.zr_sync.specs.declared.open.OpenPool.{OpenPool}
use Rattle.zr_vdev.specs.Stores.{KeepsOthers, is_open_role}
use Rattle.zr_vdev.specs.declared.kind.Kind.TheVariants.{Block}

-- The line stayed in the open group: nothing was written but units that were free, or the group's own. No other unit may be written behind it, and the pool goes on from the same root, with the trees of its streams and with the copies of units.
pub record StaysInGroup (old new : OpenPool) (before now : World) : Type 0 where
  pub written : WritesIntoFree old before now
  pub space : KeepsOthers Block old.space new.space
  pub root : KeepsRoot old new
  pub trees : HasTrees Had (Unit {0}) before.now.seen old → HasTrees Had (Unit {0}) now.now.seen new
  pub copies : KeepsCopies before now old new

-- the open group was committed with these objects, and the line stayed in the next one
pub record StaysInNextGroup (sizes : List ℕ) (objects : Objects) (old new : OpenPool) (before now : World) : Type 0 where
  pub next : OpenPool
  pub start : World
  pub commits : EndsCommitted sizes false old next objects before start
  pub stays : StaysInGroup next new start now

-- the line stayed in one group: the one that was open, or the next one, behind a commit
abbrev pub StaysInOneGroup : List ℕ → Objects → OpenPool → OpenPool → World → World → Type 0
StaysInOneGroup sizes objects old new before now = StaysInGroup old new before now ⊎ StaysInNextGroup sizes objects old new before now

-- the open group was committed with these objects, and the line stopped in the next one
pub record WritesInNextGroup (sizes : List ℕ) (objects : Objects) (old : OpenPool) (before now : World) : Type 0 where
  pub next : OpenPool
  pub start : World
  pub commits : EndsCommitted sizes false old next objects before start
  pub written : WritesIntoFree next start now

-- What a line wrote, wherever it stopped: in the open group, in the commit of it, or in the next group behind that.
abbrev pub WritesInOneGroup : List ℕ → Objects → OpenPool → World → World → Type 0
WritesInOneGroup sizes objects old before now = WritesIntoFree old before now ⊎ (CommitsObjects (HasLastTrees before.now.seen old) sizes old false objects before now ⊎ WritesInNextGroup sizes objects old before now)

-- The pool goes on from the same root, and no unit may be written that might not before.
pub record OpensNoUnit (old new : OpenPool) : Type 0 where
  pub root : KeepsRoot old new
  pub units : (d u : ℕ) → is_open_role (role_at new.space d u) ≡ true → is_open_role (role_at old.space d u) ≡ true

-- Each device is where it was, behind the same root, and no unit may be written that might not before.
pub record StaysInPlace (old new : OpenPool) : Type 0 where
  pub devices : KeepsDevices old new
  pub units : (d u : ℕ) → is_open_role (role_at new.space d u) ≡ true → is_open_role (role_at old.space d u) ≡ true

-- What a reset wrote, wherever it stopped: nothing, or the pool was changed, and its group was being committed with these objects. Where enough is told of the streams before it, what it leads to tells of removed devices.
abbrev pub WritesOneReset : Type 0 → List ℕ → Objects → OpenPool → World → World → Type 0
WritesOneReset Told sizes objects old before now = IsStill before now ⊎ ((changed : OpenPool) × IsOpen sizes changed × StaysInPlace old changed × CommitsObjects Told sizes changed true objects before now)

-- the open group was committed with these objects, and a reset followed
pub record WritesResetBehind (Told : Type 0) (sizes : List ℕ) (objects : Objects) (old : OpenPool) (before now : World) : Type 0 where
  pub next : OpenPool
  pub start : World
  pub commits : EndsCommitted sizes false old next objects before start
  pub resets : WritesOneReset Told sizes objects next start now

-- What a line wrote that ends with a reset, wherever it stopped: the reset alone, or the commit of the open group, or the reset behind that.
abbrev pub WritesReset : Type 0 → List ℕ → Objects → OpenPool → World → World → Type 0
WritesReset Told sizes objects old before now =
    WritesOneReset Told sizes objects old before now ⊎ (CommitsObjects (HasLastTrees before.now.seen old) sizes old false objects before now ⊎ WritesResetBehind Told sizes objects old before now)
