-- How the disks stand behind a commit that an import finds, whatever a crash leaves. Between two lines the input and the output change too, so this is said of the disks alone.
use Rattle.std.specs.Prelude.{◌≡◌, ℕ, List, None}
use Rattle.zr_current.specs.Current.{IsShownFor}
use Rattle.zr_model.specs.Objects.{Objects}
use Rattle.zr_recorded.specs.Service.{AreInService}
use Rattle.zr_shelf.specs.Disks.{Stand}
use Rattle.zr_stops.specs.Behind.{StandsBehind}
use Rattle.zr_sync.specs.Heads.{HasHead}
use Rattle.zr_sync.specs.Trees.{HasTrees}
use Rattle.zr_sync.specs.Trees.Stage.{Recorded}
use Rattle.zr_sync.specs.declared.open.OpenPool.{OpenPool}

-- The pool is in the group behind a commit of these objects, and an import finds that commit: the slots show its root as the current one, its head stands there, and the words of its
-- streams are recorded. Each device of it is in service, and no root is saved.
pub record StandsFound (sizes : List ℕ) (objects : Objects) (pool : OpenPool) (now : Stand) : Type 0 where
  pub behind : StandsBehind sizes objects pool now
  pub serves : AreInService behind.root behind.first
  pub unsaved : behind.first.saved ≡ None
  pub shown : IsShownFor behind.begin.seen behind.root behind.first
  pub head : HasHead behind.begin.seen behind.first behind.root.root behind.root.len
  pub trees : HasTrees Recorded (Unit {0}) behind.begin.seen behind.first
