-- What the next root of a commit leads to, wherever the commit stops.
use Rattle.std.specs.Prelude.{◌≡◌, ◌⊎◌, ℕ, Bool, List, [], Some}
use Rattle.zr_label.specs.Blocks.{IsUber}
use Rattle.zr_label.specs.declared.root.Uber.{Uber}
use Rattle.zr_model.specs.Objects.{Objects}
use Rattle.zr_shelf.specs.Moments.{World, IsStill}
use Rattle.zr_sync.specs.Commits.{IsNextRoot, PublishesRoot}
use Rattle.zr_sync.specs.Heads.{HasHead}
use Rattle.zr_sync.specs.Moves.{TellsMoves}
use Rattle.zr_sync.specs.Objects.{HoldsObjects}
use Rattle.zr_sync.specs.Pools.{IsOpen, IsSamePool}
use Rattle.zr_sync.specs.Writes.{WritesIntoFree}
use Rattle.zr_sync.specs.declared.open.OpenPool.{OpenPool}

-- On these disks the root leads to a pool with the same devices that goes on from it and has changed nothing yet: its head stands there, and it holds these objects. Where it is told enough of the streams before the
-- commit, they tell where the units of removed devices have moved.
pub record LeadsTo (Told : Type 0) (sizes : List ℕ) (disks : List (List ℕ)) (pool : OpenPool) (u : Uber) (objects : Objects) : Type 0 where
  pub next : OpenPool
  pub ready : IsOpen sizes next
  pub same : IsSamePool pool next
  pub last : next.last ≡ Some u
  pub empty : next.group.objects ≡ []
  pub head : HasHead disks next u.root u.len
  pub holds : HoldsObjects (Unit {0}) disks next objects
  pub moves : Told → TellsMoves disks next u.root u.len

-- A commit of these objects on the disks, wherever it stops: first blocks are written, into units that were free or the open group's. Then the next root is published,
-- if it came to that, and by then the root leads to the objects.
abbrev pub CommitsObjects : Type 0 → List ℕ → OpenPool → Bool → Objects → World → World → Type 0
CommitsObjects Told sizes pool reset objects before now =
    (mid : World) × WritesIntoFree pool before mid × (IsStill mid now ⊎ ((u : Uber) × IsUber u × IsNextRoot pool reset u × LeadsTo Told sizes mid.now.seen pool u objects × PublishesRoot sizes pool u mid now))
