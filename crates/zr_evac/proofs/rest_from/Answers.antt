use Rattle.std.proofs.Common.{◌-◌, arith}
use Rattle.zr_base.proofs.ExtentSets.{extent_fits}
use Rattle.zr_evac.proofs.Rest.{above_next}
use Rattle.zr_evac.proofs.rest_from.Goals as goal

pub push_part-requires-clause-not_empty : goal.push_part-requires-clause-not_empty
push_part-requires-clause-not_empty c =
    rw c.extents-runs.ensures.extents
    (extent_fits 0 (c.loop-count.count - 1) c.args.held.now.extents (record { start = 0; len = 0 }) c.loop-count.invariant.maximal (omega (arith, c.loop-count.invariant.within, c.loop-count-test.true))).0

pub push_part-requires-clause-in_range : goal.push_part-requires-clause-in_range
push_part-requires-clause-in_range c =
    rw c.extents-runs.ensures.extents
    (extent_fits 0 (c.loop-count.count - 1) c.args.held.now.extents (record { start = 0; len = 0 }) c.loop-count.invariant.maximal (omega (arith, c.loop-count.invariant.within, c.loop-count-test.true))).1

pub push_part-requires-clause-below : goal.push_part-requires-clause-below
push_part-requires-clause-below c =
    rw c.extents-runs.ensures.extents
    (above_next c.args.held.now.extents c.loop-count.rest.extents c.loop-count.count c.args.from c.loop-count.invariant.maximal (omega (arith, c.loop-count-test.true)) c.loop-count.invariant.within c.loop-count.invariant.rising c.loop-count.invariant.units)
