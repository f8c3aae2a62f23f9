-- What a pool has left is found, whatever devices are removed.
use Rattle.std.proofs.Common.{◌≡◌, inr, ℕ, List}
use Rattle.zr_label.specs.declared.root.Uber.{Uber}
use Rattle.zr_model.specs.Objects.{Objects}
use Rattle.zr_model.specs.State.{PoolState}
use Rattle.zr_open.proofs.Left.{objects_meant}
use Rattle.zr_open.specs.Left.{LeavesObjects}
use Rattle.zr_open.specs.Shown.{Shows}
use Rattle.zr_stops.proofs.Committing.{last_only}
use Rattle.zr_stops.specs.Last.{HasLast}
use Rattle.zr_sync.proofs.Ending.{own_directory}
use Rattle.zr_sync.specs.Moves.{TellsMoves}
use Rattle.zr_sync.specs.Pools.{IsOpen}
use Rattle.zr_sync.specs.declared.open.OpenPool.{OpenPool}

module _ (disks : List (List ℕ)) (sizes : List ℕ) (pool : OpenPool) (objects : Objects) (ready : IsOpen sizes pool) (left : LeavesObjects disks pool objects) where
  abbrev root : Uber
  root = left.last.root

  -- whoever reads the last root finds the pool's directory, and is led where the units have moved
  has_last : TellsMoves disks pool root.root root.len → HasLast disks root pool objects
  has_last moves = record {
    newest = left.last.newest;
    head = own_directory disks pool root.root root.len left.head;
    objects = objects_meant (Unit {0}) disks pool objects left.empty left.holds;
    reads = inr moves;
  }

  pub moved_found : TellsMoves disks pool root.root root.len → (paths : List (List ℕ)) (p : PoolState) → Shows paths disks p → p.objects ≡ objects
  moved_found moves paths p shows = last_only sizes root pool objects ready left.last.from disks (has_last moves) paths p shows
