use Rattle.std.proofs.Common.{arith}
use Rattle.zr_ranges.proofs.Parts.{count_more}
use Rattle.zr_ranges.proofs.front.count_units.Goals as goal

pub overflow_add-units : goal.overflow_add-units
overflow_add-units c = omega (arith, (count_more c.loop-run.run-index c.args.runs.now c.requires c.loop-run-test.true).0, (count_more c.loop-run.run-index c.args.runs.now c.requires c.loop-run-test.true).1, c.loop-run.invariant)

pub loop-run-preserved : goal.loop-run-preserved
loop-run-preserved c = omega (arith, (count_more c.loop-run.run-index c.args.runs.now c.requires c.loop-run-test.true).0, c.loop-run.invariant)
