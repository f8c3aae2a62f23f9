use Rattle.std.proofs.Common.{arith}
use Rattle.zr_base.proofs.ExtentSets.{longest_len-more}
use Rattle.zr_ranges.proofs.longest_run.Goals as goal

pub loop-run-preserved : goal.loop-run-preserved
loop-run-preserved c = grind (arith, longest_len-more c.loop-run.run-index c.args.runs.now (record { start = 0; len = 0 }), c.max-longest.ensures)
