use Rattle.std.proofs.Common.{arith}
use Rattle.zr_units.proofs.Merging.{puts_more}
use Rattle.zr_units.proofs.changes.put_below.Goals as goal

pub loop-e-preserved : goal.loop-e-preserved
loop-e-preserved c =
    puts_more c.args.changes.now.items c.loop-e.changes.items c.push.new.self.items c.args.went.now c.loop-e.rest.now c.in-Some.tail.now c.in-Some.e.now c.args.below
    c.loop-e.invariant c.in-Some.ensures.cases.0 (omega arith) c.in_ok-push.ensures.items
