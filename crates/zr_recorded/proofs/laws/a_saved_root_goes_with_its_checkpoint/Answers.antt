use Rattle.zr_recorded.proofs.Whole.{none_saved}
use Rattle.zr_recorded.proofs.laws.a_saved_root_goes_with_its_checkpoint.Goals as goal

pub returns : goal.returns
returns c = λ sizes old new was is same none. none_saved sizes old new was is same none
