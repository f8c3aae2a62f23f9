-- What a commit says of its end.
use Rattle.std.specs.Prelude.{◌≡◌, ℕ, ◌+◌, Bool, true, List, [], IfSome}
use Rattle.zr_model.specs.Objects.{Objects}
use Rattle.zr_rules.specs.Space.{nothing_opened, opened_of}
use Rattle.zr_shelf.specs.Disks.{IsAtRest, Stand}
use Rattle.zr_shelf.specs.Moments.{World}
use Rattle.zr_sync.specs.Commits.{EndsGroup, IsNextRoot, IsShownFrom}
use Rattle.zr_sync.specs.Copies.{KeepsCopies}
use Rattle.zr_sync.specs.Heads.{HasDirectory, HasHead, HasSafeHead}
use Rattle.zr_sync.specs.Moves.{TellsMoves}
use Rattle.zr_sync.specs.Objects.{HoldsObjects}
use Rattle.zr_sync.specs.Pools.{IsOpen, IsSamePool}
use Rattle.zr_sync.specs.Trees.{HasLastTrees, HasTrees}
use Rattle.zr_sync.specs.Trees.Stage.{Had, Recorded}
use Rattle.zr_sync.specs.Writes.{WritesIntoFree}
use Rattle.zr_sync.specs.declared.open.OpenPool.{OpenPool}

-- The clauses of a commit that succeeded, from one pool to the next: the pool is open and the same, with an empty group. Its last root is the next one, which was
-- published behind writes into free units, and leads to its head, in units of metadata. The pool holds these objects, copies keep the bytes of their units, and where the trees of its streams stood, they do so with what the root has recorded, and tell where the units of removed devices have moved.
pub record EndsCommitted (sizes : List ℕ) (reset : Bool) (old new : OpenPool) (objects : Objects) (before now : World) : Type 0 where
  pub pool : IsOpen sizes new
  pub same : IsSamePool old new
  pub last : IfSome new.last (IsNextRoot old reset)
  pub txg : new.group.txg ≡ old.group.txg + 1
  pub written : IfSome new.last (λ u. (mid : World) × WritesIntoFree old before mid × IsShownFrom sizes old u mid now)
  pub ends : EndsGroup reset old.space new.space
  pub empty : new.group.objects ≡ []
  pub stands : IfSome new.last (λ u. HasHead now.now.seen new u.root u.len)
  pub safe : IfSome new.last (λ u. HasSafeHead now.now.seen new u.root u.len)
  pub stays : HoldsObjects (Unit {0}) now.now.seen new objects
  pub copies : KeepsCopies before now old new
  pub trees : HasTrees Had (Unit {0}) before.now.seen old → HasTrees Recorded (Unit {0}) now.now.seen new
  pub moves : HasLastTrees before.now.seen old → IfSome new.last (λ u. TellsMoves now.now.seen new u.root u.len)

-- A pool came with a commit, that of its first root.
pub record ComesCommitted (sizes : List ℕ) (pool : OpenPool) (objects : Objects) (now : World) : Type 0 where
  pub blank : OpenPool
  pub before : World
  pub commits : EndsCommitted sizes true blank pool objects before now

-- What a line leaves that ends with a commit: the pool's group is empty, no unit is the group's own, and nothing is pending. Its last root leads to its directory, by a head in units of metadata.
pub record LeavesCommitted (pool : OpenPool) (now : Stand) : Type 0 where
  pub empty : pool.group.objects ≡ []
  pub settled : (d : ℕ) → opened_of pool.space d ≡ nothing_opened
  pub rest : IsAtRest now
  pub head : IfSome pool.last (λ u. HasDirectory now.seen pool u.root u.len)
  pub safe : IfSome pool.last (λ u. HasSafeHead now.seen pool u.root u.len)
