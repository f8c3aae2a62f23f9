use Rattle.std.proofs.Common.{arith}
use Rattle.std.proofs.lemmas.Result.{on_ok_weaker}
use Rattle.zr_chain.proofs.Told.{visits_are}
use Rattle.zr_chain.proofs.remap.remap_in.Goals as goal

pub returns-clause-visits : goal.returns-clause-visits
returns-clause-visits g c =
    on_ok_weaker c.visit.result
    (visits_are (g.M.Maps.devices c.args.devs.now) c.args.d (g.V.Visit.visited c.args.v.now) (g.V.Visit.visited c.visit.new.v) c.requires.ranked c.requires.known (omega arith))
    c.visit.ensures.visits
