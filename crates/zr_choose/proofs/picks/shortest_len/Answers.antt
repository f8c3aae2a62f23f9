use Rattle.std.proofs.Common.{◌-◌, ◌^◌, arith}
use Rattle.std.proofs.lemmas.Bool.Decides.{nat_tests}
use Rattle.zr_choose.proofs.Fits.{shortest_more}
use Rattle.zr_choose.proofs.picks.shortest_len.Goals as goal

pub loop-run-preserved-then-run-want : goal.loop-run-preserved-then-run-want
loop-run-preserved-then-run-want c = grind (arith, nat_tests, shortest_more (2 ^ 64 - 1) c.args.want c.loop-run.run-index c.args.runs.now (record { start = 0; len = 0 }))

pub loop-run-preserved : goal.loop-run-preserved
loop-run-preserved c = grind (arith, nat_tests, shortest_more (2 ^ 64 - 1) c.args.want c.loop-run.run-index c.args.runs.now (record { start = 0; len = 0 }), c.min-shortest.ensures)
