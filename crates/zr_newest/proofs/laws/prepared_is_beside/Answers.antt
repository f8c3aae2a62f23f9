use Rattle.zr_newest.proofs.Prepared.{newest_beside}
use Rattle.zr_newest.proofs.laws.prepared_is_beside.Goals as goal

pub returns : goal.returns
returns c = newest_beside
