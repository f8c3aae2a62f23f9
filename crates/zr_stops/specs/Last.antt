-- The last root of an open pool, on the disks and on what a crash may leave of them.
use Rattle.std.specs.Prelude.{◌≡◌, ℕ, List, [], length, map}
use Rattle.zr_image.specs.Reading.{store_of}
use Rattle.zr_image.specs.StateOf.{AreObjects}
use Rattle.zr_label.specs.declared.root.Uber.{Uber}
use Rattle.zr_model.specs.Objects.{Objects}
use Rattle.zr_newest.specs.Newest.{IsNewestOn}
use Rattle.zr_open.specs.There.{IsReadable}
use Rattle.zr_rules.specs.Space.{Space, nothing_opened, opened_of}
use Rattle.zr_shelf.specs.Disks.{IsAtRest, MayLeave, Stand}
use Rattle.zr_sync.specs.Heads.{HasDirectory, HasSafeHead}
use Rattle.zr_sync.specs.Objects.{HoldsObjects}
use Rattle.zr_sync.specs.Pools.{IsOpen}
use Rattle.zr_sync.specs.declared.open.OpenPool.{OpenPool}
use Rattle.zr_vdev.specs.Runs.{view_of}

-- no unit is the open group's own
abbrev pub IsSettled : Space → Type 0
IsSettled s = (d : ℕ) → opened_of s d ≡ nothing_opened

-- The pool stands as its last root has it: nothing has changed since and nothing is pending. That root is the newest of the pool on the disks, which have its directory, at a head in units of
-- metadata, and its objects. Whoever reads that root is led where the pool is.
pub record IsCommitted (sizes : List ℕ) (stand : Stand) (u : Uber) (pool : OpenPool) (all : Objects) : Type 0 where
  pub ready : IsOpen sizes pool
  pub empty : pool.group.objects ≡ []
  pub settled : IsSettled pool.space
  pub rest : IsAtRest stand
  pub sized : map length stand.seen ≡ sizes
  pub newest : IsNewestOn stand.seen u pool.table.slots
  pub head : HasDirectory stand.seen pool u.root u.len
  pub safe : HasSafeHead stand.seen pool u.root u.len
  pub objects : HoldsObjects (Unit {0}) stand.seen pool all
  pub reads : IsReadable stand.seen pool u

-- The image has the pool's last root: it is the newest of the pool there, a head with the pool's directory stands at its pointer, whoever reads it is led where the pool is, and that directory means these objects.
pub record HasLast (image : List (List ℕ)) (u : Uber) (pool : OpenPool) (all : Objects) : Type 0 where
  pub newest : IsNewestOn image u pool.table.slots
  pub head : HasDirectory image pool u.root u.len
  pub objects : AreObjects (store_of (view_of image pool.table.slots pool.space)) pool.dir all
  pub reads : IsReadable image pool u

-- whatever a crash leaves has it
abbrev pub LeavesLast : Uber → OpenPool → Objects → Stand → Type 0
LeavesLast u pool objects stand = (image : List (List ℕ)) → MayLeave stand image → HasLast image u pool objects
