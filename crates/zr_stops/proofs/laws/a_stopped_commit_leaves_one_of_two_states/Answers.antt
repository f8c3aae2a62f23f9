use Rattle.zr_sync.specs.Trees.{HasLastTrees}
use Rattle.zr_stops.proofs.Committing.{stopped_either}
use Rattle.zr_stops.proofs.laws.a_stopped_commit_leaves_one_of_two_states.Goals as goal

pub returns : goal.returns
returns c = λ sizes reset last first old before after begin start now was from group ready told commits. stopped_either (HasLastTrees start.now.seen old) sizes reset last first old before after begin start now was from group ready told commits
