use Rattle.zr_stops.proofs.Grouped.{begins}
use Rattle.zr_stops.proofs.laws.a_group_begins.Goals as goal

pub returns : goal.returns
returns c = λ pool now. begins pool now
