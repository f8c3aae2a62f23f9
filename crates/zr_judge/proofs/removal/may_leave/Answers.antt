use Rattle.std.proofs.Common.{refl, arith}
use Rattle.zr_judge.proofs.Leaving.{may}
use Rattle.zr_judge.proofs.removal.may_leave.Goals as goal

pub returns : goal.returns
returns c = (
  λ _. let end = c.loop-part.auto.part-index-end in may c.args.parts.now c.args.ckpt c.loop-part.met c.loop-part.part-index (omega (arith, end, c.loop-part-test.false)) c.loop-part.invariant.none c.loop-part.invariant.some,
  λ _. refl,
)
