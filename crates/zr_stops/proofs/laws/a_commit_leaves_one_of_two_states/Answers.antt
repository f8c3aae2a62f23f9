use Rattle.zr_stops.proofs.Committing.{commit_either}
use Rattle.zr_stops.proofs.laws.a_commit_leaves_one_of_two_states.Goals as goal

pub returns : goal.returns
returns c = λ sizes last u first old new before after begin start mid now is. commit_either sizes last u first old new before after begin start mid now is
