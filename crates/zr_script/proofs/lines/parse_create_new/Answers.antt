use Rattle.zr_script.proofs.Reading.{no_pool_new}
use Rattle.zr_script.proofs.lines.parse_create_new.Goals as goal

pub returns-in_default : goal.returns-in_default
returns-in_default c = no_pool_new _ _ c.in_default.is c.in_ok-pool.ensures
