use Rattle.std.proofs.Common.{arith, ◌≤◌, length}
use Rattle.zr_metaslab.proofs.Runs.{runs_bound}
use Rattle.zr_metaslab.proofs.metaslab.Metaslab.release.Goals as goal

pub add_reserved-requires-clause-room : goal.add_reserved-requires-clause-room
add_reserved-requires-clause-room c =
    let few : length c.self.inside.free.extents ≤ 256 = runs_bound c.args.base c.self.inside.free.extents c.extents-runs.ensures.maximal (rw (← c.self.view_is) at c.requires.inside) in
    omega (arith, c.self.invariant)
