use Rattle.zr_held.proofs.Dropping.{dropped, drop_stored}
use Rattle.zr_held.proofs.object_dropped.Goals as goal

pub returns-clause-stored : goal.returns-clause-stored
returns-clause-stored c = λ s a objects id r blocks has found are. drop_stored s a objects id r blocks has found are

pub returns-clause-dropped : goal.returns-clause-dropped
returns-clause-dropped c = λ s n a b objects id r blocks low dir found are sets swaps once has. dropped s n a b objects id r blocks low dir found are sets swaps once has
