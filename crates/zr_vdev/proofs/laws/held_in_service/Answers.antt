use Rattle.zr_rules.specs.Equation.{devices_in}
use Rattle.zr_space.proofs.Freeables.{live_freeable, freeable_live}
use Rattle.zr_vdev.proofs.Back.{spends_service}
use Rattle.zr_vdev.proofs.Uses.{leads_inside, leads_there}
use Rattle.zr_vdev.proofs.laws.held_in_service.Goals as goal

pub returns-clause-used : goal.returns-clause-used
returns-clause-used c = λ space at on. (freeable_live space at on, live_freeable space at on)

pub returns-clause-own : goal.returns-clause-own
returns-clause-own c = λ space at d u on live. (leads_inside (devices_in space) on at d u, leads_there (devices_in space) on at d u live.known live.within)

pub returns-clause-spends : goal.returns-clause-spends
returns-clause-spends c = λ space list on. spends_service space list on
