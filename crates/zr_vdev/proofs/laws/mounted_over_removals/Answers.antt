use Rattle.zr_vdev.proofs.Mounting.{cancels_mounted, finishes_mounted, leaves_mounted}
use Rattle.zr_vdev.proofs.laws.mounted_over_removals.Goals as goal

pub returns-clause-leaves : goal.returns-clause-leaves
returns-clause-leaves c = λ sizes slots old new d there leaves mounted. leaves_mounted sizes slots old new d there leaves mounted

pub returns-clause-cancels : goal.returns-clause-cancels
returns-clause-cancels c = λ sizes slots old new d leaving cancels mounted. cancels_mounted sizes slots old new d leaving cancels mounted

pub returns-clause-finishes : goal.returns-clause-finishes
returns-clause-finishes c = λ sizes slots old new d txg finishes mounted. finishes_mounted sizes slots old new d txg finishes mounted
