use Rattle.std.proofs.Common.{◌∙◌}
use Rattle.zr_label.proofs.Filling.{sealed_put}
use Rattle.zr_label.proofs.block.seal.Goals as goal

pub returns : goal.returns
returns c = λ content le h. sealed_put c.args.block.now content _ le h (c.copy_from_slice.ensures.after ∙ c.sum_of-sum.ensures.sum)
