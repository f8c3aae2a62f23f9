use Rattle.std.proofs.Common.{arith}
use Rattle.zr_scan.proofs.Spacing.{label_fits}
use Rattle.zr_scan.proofs.places.label_block_at.Goals as goal

pub returns-clause-fits : goal.returns-clause-fits
returns-clause-fits c = let fits = label_fits c.args.size c.requires.size c.args.n c.requires.label in let at = c.label_at.ensures in omega (arith, fits, at)
