use Rattle.zr_bptr.proofs.Spelled.{one_pointer}
use Rattle.zr_bptr.proofs.Pieces.{one_block}
use Rattle.zr_bptr.proofs.Leaves.{one_leaf}
use Rattle.zr_bptr.proofs.laws.one_value.Goals as goal

pub returns-clause-pointer : goal.returns-clause-pointer
returns-clause-pointer c = one_pointer

pub returns-clause-block : goal.returns-clause-block
returns-clause-block c = one_block

pub returns-clause-records : goal.returns-clause-records
returns-clause-records c = one_leaf
