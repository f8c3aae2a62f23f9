use Rattle.zr_scan.proofs.Blocks.{other_units}
use Rattle.zr_scan.proofs.slots.label_of.Goals as goal

pub returns-then-l-units : goal.returns-then-l-units
returns-then-l-units c = other_units c.args.block.now c.args.units c.in-Some.l c.in-Some.ensures c.if-l-units.true
