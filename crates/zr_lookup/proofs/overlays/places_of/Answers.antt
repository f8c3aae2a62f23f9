use Rattle.std.proofs.Common.{arith}
use Rattle.zr_lookup.proofs.Keys.{counts_rise}
use Rattle.zr_lookup.proofs.overlays.places_of.Goals as goal

pub returns-clause-order : goal.returns-clause-order
returns-clause-order c = let le = counts_rise c.args.low c.args.high c.args.leaves.now c.requires.order in omega (arith, le)
