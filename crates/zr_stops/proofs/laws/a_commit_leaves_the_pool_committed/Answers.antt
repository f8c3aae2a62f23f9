use Rattle.zr_stops.proofs.Ending.{leaves_committed}
use Rattle.zr_stops.proofs.laws.a_commit_leaves_the_pool_committed.Goals as goal

pub returns : goal.returns
returns c = λ sizes reset last old new objects before now ready from sized was told ends. leaves_committed sizes reset last old new objects before now ready from sized was told ends
