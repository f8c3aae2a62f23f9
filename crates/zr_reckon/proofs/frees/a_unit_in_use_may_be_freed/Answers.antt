use Rattle.zr_reckon.proofs.UnitInUse.{unit_freeable}
use Rattle.zr_reckon.proofs.frees.a_unit_in_use_may_be_freed.Goals as goal

pub returns : goal.returns
returns c = unit_freeable
