use Rattle.std.proofs.Common.{refl, arith}
use Rattle.std.proofs.lemmas.List.{ext_get_or}
use Rattle.zr_judge.proofs.condensing.are_same_entries.Goals as goal

pub returns : goal.returns
returns c = (
  λ _. ext_get_or _ c.args.a.now c.args.b.now (omega (arith, c.if-a-b.false)) (λ k lt. let end = c.loop-i.invariant.end in c.loop-i.invariant.so_far k (omega (arith, lt, end, c.loop-i-test.false))),
  λ _. refl,
)
