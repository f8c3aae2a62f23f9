-- A root that can be read stays so where metadata reads as it did.
use Rattle.std.proofs.Common.{◌≡◌, inl, inr, ℕ, List}
use Rattle.zr_base.specs.declared.space.Dva.{Dva}
use Rattle.zr_label.specs.declared.root.Uber.{Uber}
use Rattle.zr_moved.proofs.Staying.{moves_stay}
use Rattle.zr_open.specs.There.{IsReadable}
use Rattle.zr_space.specs.Drops.{IsMeta}
use Rattle.zr_sync.specs.declared.open.OpenPool.{OpenPool}
use Rattle.zr_vdev.specs.Runs.{view_of}
use Rattle.zr_view.specs.Views.{address_bytes}

pub readable_stays : (disks image : List (List ℕ)) (pool : OpenPool) (u : Uber) → ((a : Dva) → IsMeta pool.space a → address_bytes (view_of image pool.table.slots pool.space) a ≡ address_bytes (view_of disks pool.table.slots pool.space) a) → IsReadable disks pool u → IsReadable image pool u
readable_stays disks image pool u same (inl there) = inl there
readable_stays disks image pool u same (inr moves) = inr (moves_stay disks image pool u.root u.len same moves)
