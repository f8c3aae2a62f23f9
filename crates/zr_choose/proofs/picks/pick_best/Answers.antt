use Rattle.zr_choose.proofs.Fits.{best_fit_is}
use Rattle.zr_choose.proofs.picks.pick_best.Goals as goal

pub returns : goal.returns
returns c = rw (c.index_of_len.ensures, c.shortest_len.ensures) (best_fit_is c.args.want c.args.runs.now c.requires.some c.requires.runs)
