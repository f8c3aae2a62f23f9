-- The objects that are shown of a root that can be read are those of the pool's directory.
use Rattle.std.proofs.Common.{◌≡◌, inl, inr, ℕ, List}
use Rattle.zr_current.specs.Current.{GoesOnFrom, HasSlots}
use Rattle.zr_image.specs.Current.{slots_of}
use Rattle.zr_image.specs.Reading.{store_of}
use Rattle.zr_image.specs.StateOf.{AreObjects}
use Rattle.zr_label.specs.declared.root.Uber.{Uber}
use Rattle.zr_model.specs.State.{PoolState}
use Rattle.zr_moved.proofs.Readable.{moved_objects}
use Rattle.zr_open.proofs.Left.{some_head_read}
use Rattle.zr_open.proofs.Same.{objects_by_head}
use Rattle.zr_open.specs.Shown.{Shows}
use Rattle.zr_open.specs.There.{IsReadable}
use Rattle.zr_sync.specs.Heads.{HasDirectory}
use Rattle.zr_sync.specs.Pools.{IsOpen}
use Rattle.zr_sync.specs.declared.open.OpenPool.{OpenPool}
use Rattle.zr_vdev.specs.Runs.{view_of}

pub shown_objects : (paths disks : List (List ℕ)) (sizes : List ℕ) (u : Uber) (pool : OpenPool) (p : PoolState) → IsOpen sizes pool → GoesOnFrom u pool → IsReadable disks pool u → HasDirectory disks pool u.root u.len → (shows : Shows paths disks p)
    → shows.root.uber ≡ u → HasSlots (slots_of u shows.seen) pool.table.slots → AreObjects (store_of (view_of disks pool.table.slots pool.space)) pool.dir p.objects
shown_objects paths disks sizes u pool p ready from (inl on) has shows same_root slots =
    objects_by_head paths disks sizes u pool p ready on from has.head has.same (some_head_read sizes u pool ready on from disks has.head has.lawful has.stands) shows same_root slots
shown_objects paths disks sizes u pool p ready from (inr moves) has shows same_root slots = moved_objects paths disks sizes u pool p ready from moves shows same_root slots
