use Rattle.zr_found.proofs.Nothing.{nothing}
use Rattle.zr_found.proofs.nothing_found.Goals as goal

pub returns : goal.returns
returns c = λ image s a dir found. nothing image s a dir found
