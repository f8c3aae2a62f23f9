use Rattle.zr_prefix.proofs.Stopping.{pool_there}
use Rattle.zr_prefix.proofs.laws.a_pool_is_there.Goals as goal

pub returns : goal.returns
returns c = λ p turns disks x objects none run rests found account last whole unsaved image left paths. pool_there p turns disks none run x objects rests found account last whole unsaved image left paths
