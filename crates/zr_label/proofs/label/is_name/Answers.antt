use Rattle.std.proofs.Common.{rules, arith}
use Rattle.zr_label.proofs.Labels.{name_iff}
use Rattle.zr_label.proofs.label.is_name.Goals as goal

pub returns : goal.returns
returns c = name_iff c.args.n.now _ (omega arith) (search rules) (rw c.from.ensures at c.are_zeros_from.ensures)
