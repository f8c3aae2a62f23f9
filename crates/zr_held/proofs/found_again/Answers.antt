use Rattle.zr_held.proofs.Again.{found_again, plan_again, blocks_again}
use Rattle.zr_held.proofs.found_again.Goals as goal

pub returns-clause-record_is : goal.returns-clause-record_is
returns-clause-record_is c = λ s n a objects id r swap has found. found_again s n a objects id r swap has found

pub returns-clause-blocks : goal.returns-clause-blocks
returns-clause-blocks c = λ s n a objects id r blocks swap has found are. blocks_again s n a objects id r swap has found blocks are

pub returns-clause-plan : goal.returns-clause-plan
returns-clause-plan c = λ s n a objects id r e plan swap has found all. plan_again s n a objects id r swap has found e plan all
