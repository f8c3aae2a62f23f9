use Rattle.zr_vdev.proofs.Moves as moves
use Rattle.zr_vdev.proofs.laws.held_by_the_next.Goals as goal

pub returns-clause-anew : goal.returns-clause-anew
returns-clause-anew g c = λ shelf kind slots disks space lost cache s held. moves.begins_held kind slots (g.S.Shelf.tells shelf) disks space lost cache s held

pub returns-clause-retold : goal.returns-clause-retold
returns-clause-retold g c = λ before later kind slots disks space lost cache s told held. moves.retold kind slots (g.S.Shelf.tells before) (g.S.Shelf.tells later) disks space lost cache s told held
