use Rattle.zr_held.proofs.Empty.{none_held}
use Rattle.zr_held.proofs.no_objects.Goals as goal

pub returns : goal.returns
returns c = λ s a dir group none once. none_held s a dir group none once
