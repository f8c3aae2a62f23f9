use Rattle.std.proofs.Common.{◌∙◌}
use Rattle.zr_metaslab.proofs.Runs.{takes}
use Rattle.zr_metaslab.proofs.metaslab.Metaslab.alloc.Goals as goal

pub returns : goal.returns
returns g c =
    takes c.args.self.now c.extents-runs.result.now c.take_from.new.self.extents c.args.chooser.now.policy c.args.want c.in-Some.i c.take_from.result
    (c.extents-runs.ensures.extents ∙ c.self.view_is)
    (rw c.in-Some.is at c.pick.ensures)
    (rw c.self.view_is at c.take_from.ensures.start)
    (rw c.self.view_is at c.take_from.ensures.len)
    (rw c.self.view_is at c.take_from.ensures.covered)
    (rw c.self.view_is at c.take_from.ensures.removed)
