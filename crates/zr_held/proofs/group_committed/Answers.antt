use Rattle.zr_held.proofs.Groups.{committed, commit_stored}
use Rattle.zr_held.proofs.group_committed.Goals as goal

pub returns-clause-stored : goal.returns-clause-stored
returns-clause-stored c = λ s a objects count group lawful has. commit_stored s a objects count group lawful has

pub returns-clause-committed : goal.returns-clause-committed
returns-clause-committed c = λ s n a b objects count group lawful writes empty once has. committed s n a b objects count group lawful writes empty once has
