use Rattle.zr_newest.proofs.Newest.{current_newest}
use Rattle.zr_newest.proofs.laws.current_is_newest.Goals as goal

pub returns : goal.returns
returns c = current_newest
