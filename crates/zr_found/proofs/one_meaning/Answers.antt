use Rattle.zr_found.proofs.Alone.{one_meaning}
use Rattle.zr_found.proofs.one_meaning.Goals as goal

pub returns : goal.returns
returns c = λ s dir x y one other. one_meaning s dir x y one other
