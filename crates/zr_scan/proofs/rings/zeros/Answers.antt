use Rattle.std.proofs.Common.{rules}
use Rattle.zr_label.specs.Blocks.{padding}
use Rattle.zr_scan.proofs.rings.zeros.Goals as goal

pub returns-clause-zeros : goal.returns-clause-zeros
unfolding padding
returns-clause-zeros c = search rules
