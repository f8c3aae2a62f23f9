use Rattle.zr_newest.proofs.Newest.{newest_still}
use Rattle.zr_newest.proofs.laws.newest_stays.Goals as goal

pub returns : goal.returns
returns c = newest_still
