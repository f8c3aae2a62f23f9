use Rattle.zr_held.proofs.Whole.{all_of}
use Rattle.zr_held.proofs.blocks_are_all.Goals as goal

pub returns : goal.returns
returns c = λ s a objects has. all_of s a objects has
