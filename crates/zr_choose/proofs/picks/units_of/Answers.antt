use Rattle.std.proofs.Common.{◌+◌, arith}
use Rattle.zr_base.proofs.ExtentSets.{unit_count-more}
use Rattle.zr_choose.proofs.Fits.{count_within}
use Rattle.zr_choose.proofs.picks.units_of.Goals as goal

pub overflow_add-units : goal.overflow_add-units
overflow_add-units c = omega (arith, unit_count-more c.loop-run.run-index c.args.runs.now (record { start = 0; len = 0 }), count_within (c.loop-run.run-index + 1) c.args.runs.now c.requires)

pub loop-run-preserved : goal.loop-run-preserved
loop-run-preserved c = omega (arith, unit_count-more c.loop-run.run-index c.args.runs.now (record { start = 0; len = 0 }))
