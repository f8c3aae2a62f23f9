use Rattle.std.proofs.Common.{arith}
use Rattle.zr_label.proofs.Filling.{filled_put}
use Rattle.zr_label.proofs.block.put.Goals as goal

pub returns : goal.returns
returns c = λ done e h. filled_put c.args.block.now done c.args.part.now _ c.args.at _ e c.requires (omega arith) c.copy_from_slice.ensures.after h
