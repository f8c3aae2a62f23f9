-- What a crash shows while a group is open and while it is committed.
use Rattle.std.specs.Prelude.{◌≡◌, ◌⊎◌, ℕ, List}
use Rattle.zr_current.specs.Current.{GoesOnFrom}
use Rattle.zr_current.specs.Next.{IsNextOf}
use Rattle.zr_image.specs.Honest.{IsLeft}
use Rattle.zr_label.specs.Blocks.{IsUber}
use Rattle.zr_label.specs.declared.root.Uber.{Uber}
use Rattle.zr_model.specs.Objects.{Objects}
use Rattle.zr_model.specs.State.{PoolState}
use Rattle.zr_open.specs.Shown.{Shows}
use Rattle.zr_shelf.specs.Disks.{Stand}
use Rattle.zr_shelf.specs.Moments.{World}
use Rattle.zr_stops.specs.Groups.{IsInGroup}
use Rattle.zr_stops.specs.Last.{IsCommitted}
use Rattle.zr_sync.specs.Commits.{IsShownFrom}
use Rattle.zr_sync.specs.Pools.{IsOpen}
use Rattle.zr_sync.specs.Writes.{WritesIntoFree}
use Rattle.zr_sync.specs.declared.open.OpenPool.{OpenPool}

-- whatever an honest crash leaves shows these objects or those, if it shows a pool
abbrev pub ShowsEither : Objects → Objects → Stand → Type 0
ShowsEither before after stand = (image : List (List ℕ)) → IsLeft stand image → (paths : List (List ℕ)) (p : PoolState) → Shows paths image p → (p.objects ≡ before) ⊎ (p.objects ≡ after)

-- A commit of a group: the pool stood committed when the group began, the lines of the group came, then blocks were written and the next root was published, and the pool stands
-- committed again. The table of devices is the same.
pub record CommitsGroup (sizes : List ℕ) (last u : Uber) (first old new : OpenPool) (before after : Objects) (begin start mid now : World) : Type 0 where
  pub was : IsCommitted sizes begin.now last first before
  pub from : GoesOnFrom last first
  pub group : IsInGroup first begin old start
  pub ready : IsOpen sizes old
  pub wrote : WritesIntoFree old start mid
  pub shown : IsShownFrom sizes old u mid now
  pub lawful : IsUber u
  pub next : IsNextOf last u
  pub done : IsCommitted sizes now.now u new after
  pub to : GoesOnFrom u new
  pub table : new.table ≡ first.table
