use Rattle.zr_prefix.proofs.Prefixes.{prefix_told}
use Rattle.zr_prefix.proofs.laws.what_is_committed_is_told.Goals as goal

pub returns : goal.returns
returns c = λ p turns objects none run is. prefix_told p turns objects none run is
