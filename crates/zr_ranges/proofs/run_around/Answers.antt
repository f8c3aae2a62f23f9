use Rattle.zr_ranges.proofs.Cuts.{run_of-holder}
use Rattle.zr_ranges.proofs.run_around.Goals as goal

pub returns-clause-run : goal.returns-clause-run
returns-clause-run c = rw c.run_at.ensures.value at (run_of-holder c.holder.result c.args.runs.now c.args.e c.requires.maximal c.holder.ensures.index c.requires.not_empty c.holder.ensures.starts c.holder.ensures.ends)
