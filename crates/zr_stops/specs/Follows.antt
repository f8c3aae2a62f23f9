-- One commit after another.
use Rattle.std.specs.Prelude.{◌≡◌, ℕ, Bool, List, [], ◌∷◌, Some, Contains}
use Rattle.zr_current.specs.Current.{GoesOnFrom}
use Rattle.zr_image.specs.Honest.{IsLeft}
use Rattle.zr_label.specs.declared.root.Uber.{Uber}
use Rattle.zr_model.specs.Objects.{Objects}
use Rattle.zr_model.specs.State.{PoolState}
use Rattle.zr_open.specs.Shown.{Shows}
use Rattle.zr_shelf.specs.Disks.{Stand}
use Rattle.zr_shelf.specs.Moments.{World}
use Rattle.zr_open.specs.There.{WillBeReadable}
use Rattle.zr_sync.specs.Ends.{EndsCommitted}
use Rattle.zr_stops.specs.Groups.{IsInGroup}
use Rattle.zr_stops.specs.Last.{IsCommitted}
use Rattle.zr_sync.specs.Pools.{IsOpen}
use Rattle.zr_sync.specs.declared.open.OpenPool.{OpenPool}

-- what a commit left: the moment behind it, its root, the pool and its objects
pub record Commit : Type 0 where
  pub now : World
  pub root : Uber
  pub pool : OpenPool
  pub objects : Objects

-- the pool stood committed then
pub record Stood (sizes : List ℕ) (c : Commit) : Type 0 where
  pub committed : IsCommitted sizes c.now.now c.root c.pool c.objects
  pub from : GoesOnFrom c.root c.pool

-- the lines of one group came behind the one commit, and then the other
pub record IsNextCommit (sizes : List ℕ) (a b : Commit) : Type 0 where
  pub old : OpenPool
  pub start : World
  pub reset : Bool
  pub group : IsInGroup a.pool a.now old start
  pub ready : IsOpen sizes old
  pub told : WillBeReadable start.now.seen old
  pub ends : EndsCommitted sizes reset old b.pool b.objects start b.now
  pub root : b.pool.last ≡ Some b.root

-- each is the next one of that before
abbrev pub FollowOn : List ℕ → Commit → List Commit → Type 0
FollowOn sizes a [] = Unit {0}
FollowOn sizes a (b ∷ more) = IsNextCommit sizes a b × FollowOn sizes b more

abbrev pub last_of : Commit → List Commit → Commit
last_of a [] = a
last_of a (b ∷ more) = last_of b more

-- whatever an honest crash leaves shows the objects of one of these, if it shows a pool
abbrev pub ShowsAmong : List Objects → Stand → Type 0
ShowsAmong all stand = (image : List (List ℕ)) → IsLeft stand image → (paths : List (List ℕ)) (p : PoolState) → Shows paths image p → Contains all p.objects
