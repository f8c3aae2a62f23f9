use Rattle.zr_choose.proofs.Fits.{first_fit_is}
use Rattle.zr_choose.proofs.picks.pick_first.Goals as goal

pub returns : goal.returns
returns c = rw c.first_index.ensures (first_fit_is c.args.want c.args.runs.now c.requires.some)
