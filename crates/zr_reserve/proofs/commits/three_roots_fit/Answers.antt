use Rattle.zr_reserve.proofs.Kept.{three_fit}
use Rattle.zr_reserve.proofs.commits.three_roots_fit.Goals as goal

pub returns : goal.returns
returns c = three_fit
