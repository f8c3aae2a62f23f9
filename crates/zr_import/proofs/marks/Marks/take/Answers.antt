use Rattle.std.proofs.Common.{arith}
use Rattle.zr_import.proofs.Taking.{none_there}
use Rattle.zr_import.proofs.marks.Marks.take.Goals as goal

pub returns-then-dev-len-clause-fits : goal.returns-then-dev-len-clause-fits
returns-then-dev-len-clause-fits c = (λ no. absurd cc, rw (← c.self.view_is) (λ has. none_there c.self.inside.left.items c.args.dev c.args.e (omega (arith, c.if-dev-len.true, c.len.ensures)) has))
