use Rattle.std.proofs.Common.{refl}
use Rattle.zr_freed.proofs.Turns.{freed_in_use, held_blocks, in_use_held}
use Rattle.zr_freed.proofs.Whole.{freed_lead_to_all}
use Rattle.zr_freed.proofs.freed_are_held.Goals as goal
use Rattle.zr_vdev.specs.Stores.{addresses_of}

pub returns : goal.returns
returns g c = λ birth shelf disks slots cache old new pointers told read none single left frees.
    let list = addresses_of pointers in (
      held_blocks slots disks old pointers,
      in_use_held (g.S.Shelf.tells shelf) disks slots cache old pointers told read (freed_in_use birth old new list none frees) (freed_lead_to_all birth old new list single left frees),
      refl,
    )
