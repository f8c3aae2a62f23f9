use Rattle.std.specs.Prelude.{◌≡◌, true}
use Rattle.zr_rules.specs.Equation.{devices_in}
use Rattle.zr_rules.specs.Resolve.{is_resolved}
use Rattle.zr_chain.specs.Visits.{Visits, HasGap}
use Rattle.zr_space.specs.Paths.{LeadsNowhere, StandsWithin}
use Rattle.zr_space.proofs.Paths.{gap_nowhere, visits_resolve, on_ok, if_err}
use Rattle.zr_space.proofs.space.Space.remap.Goals as goal

pub returns-in-None-clause-resolved : goal.returns-in-None-clause-resolved
returns-in-None-clause-resolved g c =
    let ds = devices_in c.args.self.now in
    let stands : StandsWithin ds c.args.d = rw c.in-None.is at c.past_end.ensures.within in
    on_ok c.remap_in.result (Visits ds c.args.d (g.V.Visit.visited c.args.v.now) (g.V.Visit.visited c.remap_in.new.v)) (is_resolved ds c.args.d ≡ true)
    (visits_resolve ds c.args.d (g.V.Visit.visited c.args.v.now) (g.V.Visit.visited c.remap_in.new.v) stands) c.remap_in.ensures.visits

pub returns-in-None-clause-nowhere : goal.returns-in-None-clause-nowhere
returns-in-None-clause-nowhere g c =
    let ds = devices_in c.args.self.now in
    if_err c.remap_in.result (HasGap ds c.args.d) (LeadsNowhere ds c.args.d) (gap_nowhere ds c.args.d) c.remap_in.ensures.gap
