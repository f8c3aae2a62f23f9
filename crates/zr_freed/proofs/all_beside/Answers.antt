use Rattle.zr_freed.proofs.Beside.{all_beside, single_beside}
use Rattle.zr_freed.proofs.all_beside.Goals as goal

pub returns-clause-all : goal.returns-clause-all
returns-clause-all c = λ own parts meta saved old new list same so to h. all_beside own parts meta saved old new same so to list h

pub returns-clause-single : goal.returns-clause-single
returns-clause-single c = λ own parts meta saved old new same so to h. single_beside own parts meta saved old new same so to h
