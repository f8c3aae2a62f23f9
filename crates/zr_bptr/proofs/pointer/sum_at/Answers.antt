use Rattle.std.proofs.Common.{◌∙◌, drop, arith}
use Rattle.std.proofs.lemmas.List.{take_all, length-drop}
use Rattle.zr_bptr.proofs.pointer.sum_at.Goals as goal

pub returns : goal.returns
returns c = c.copy_from_slice.ensures.after ∙ take_all _ (drop 96 c.args.bytes.now) (omega (arith, length-drop 96 c.args.bytes.now))
