use Rattle.std.proofs.Common.{◌≤◌, length, arith}
use Rattle.zr_ranges.proofs.Parts.{kept_without}
use Rattle.zr_ranges.proofs.RangeSet.drop_front.Goals as goal

pub invariant_of-self : goal.invariant_of-self
invariant_of-self c =
    let few : c.min-count.result ≤ length c.live-runs.result.now = omega (arith, c.min-count.ensures) in
    kept_without _ _ _ _ _ _ _ c.self.invariant (rw c.live-runs.ensures at few) (rw c.live-runs.ensures at c.count_units.ensures) (rw c.live-runs.ensures at c.without-self-inside.ensures.first) (rw c.live-runs.ensures at c.without-self-inside.ensures.second)
