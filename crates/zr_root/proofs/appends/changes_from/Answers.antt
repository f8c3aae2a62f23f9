use Rattle.std.proofs.Common.{arith}
use Rattle.zr_root.proofs.Tails.{changes_more}
use Rattle.zr_root.proofs.appends.changes_from.Goals as goal

pub loop-b-preserved : goal.loop-b-preserved
loop-b-preserved c = record {
  changes = changes_more c.args.first c.loop-b.b-index c.loop-b.index c.args.leaves.now _ c.loop-b.changes.items c.push.new.self.items c.loop-b-test.true c.loop-b.invariant.index c.loop-b.invariant.changes c.in_ok-push.ensures.items;
  index = let is = c.loop-b.invariant.index in omega (arith, is);
}
