use Rattle.zr_stops.proofs.Grouped.{line_stays}
use Rattle.zr_stops.proofs.laws.lines_stay_in_their_group.Goals as goal

pub returns : goal.returns
returns c = λ first old new start before now group wrote keeps table last guid. line_stays first start old new before now group wrote keeps table last guid
