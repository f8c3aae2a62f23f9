use Rattle.std.proofs.Common.{◌∙◌}
use Rattle.zr_meta.specs.Streams.{runs_of_kind}
use Rattle.zr_meta.proofs.Lates.{only_set}
use Rattle.zr_meta.proofs.late.set_of.Goals as goal

pub returns : goal.returns
returns c =
    only_set (runs_of_kind c.args.free c.args.changes.now) c.as_slice.result.now c.in_ok-found.found (c.as_slice.ensures.value ∙ c.in_ok-runs.ensures.taken)
    c.in_ok-found.ensures.some c.in_ok-found.ensures.none
