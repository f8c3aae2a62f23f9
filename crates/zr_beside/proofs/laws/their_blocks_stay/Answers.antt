use Rattle.zr_beside.proofs.Beside.{all_same, same_blocks}
use Rattle.zr_beside.proofs.laws.their_blocks_stay.Goals as goal

pub returns-clause-beside : goal.returns-clause-beside
returns-clause-beside c = λ s n front gone back into h swaps. same_blocks s n front gone back into h swaps

pub returns-clause-all : goal.returns-clause-all
returns-clause-all c = λ s n all h bytes. all_same s n all h bytes
