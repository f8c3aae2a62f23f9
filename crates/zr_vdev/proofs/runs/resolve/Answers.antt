use Rattle.std.proofs.Common.{List, subst, sym}
use Rattle.zr_chain.specs.declared.visit.Visited.{Visited}
use Rattle.zr_chain.specs.Visits.{Visits}
use Rattle.zr_imap.specs.declared.image.Piece.{Piece}
use Rattle.zr_rules.specs.Equation.{devices_in}
use Rattle.zr_vdev.specs.Runs.{AreRunsOf}
use Rattle.zr_vdev.proofs.Reading.{visited_runs}
use Rattle.zr_vdev.proofs.runs.resolve.Goals as goal

pub returns-clause-runs : goal.returns-clause-runs
returns-clause-runs c =
    let visits = subst (λ (vs : List Visited). Visits (devices_in c.args.space.now) c.args.at vs c.remap.new.v.visits.items) c.new.ensures.items c.in_ok-remap.ensures.visits in
    subst (λ (ps : List Piece). AreRunsOf (devices_in c.args.space.now) c.args.at ps) (sym c.in_ok-runs.ensures) (visited_runs (devices_in c.args.space.now) c.args.at c.remap.new.v.visits.items visits c.in_ok-remap.ensures.resolved)
