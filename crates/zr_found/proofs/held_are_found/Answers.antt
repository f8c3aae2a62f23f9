use Rattle.zr_found.proofs.Image.{held_are_found}
use Rattle.zr_found.proofs.held_are_found.Goals as goal

pub returns : goal.returns
returns c = λ image s a objects none alike has. held_are_found image s a objects none alike has
