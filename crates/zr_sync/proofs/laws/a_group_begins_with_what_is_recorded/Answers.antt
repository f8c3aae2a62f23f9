use Rattle.zr_sync.proofs.Regrouping.{begins_again}
use Rattle.zr_sync.proofs.laws.a_group_begins_with_what_is_recorded.Goals as goal

pub returns : goal.returns
returns g c = λ shelf disks pool begun trees. begins_again (g.S.Shelf.tells shelf) disks pool begun trees
