use Rattle.std.proofs.Common.{arith}
use Rattle.zr_paged.proofs.Ends.{stop_bound}
use Rattle.zr_paged.proofs.page.ends_of.Goals as goal

pub overflow_add-result : goal.overflow_add-result
overflow_add-result c = omega (arith, stop_bound 0 c.args.runs.now c.requires)
