use Rattle.std.proofs.Common.{arith}
use Rattle.zr_audit.proofs.Puts.{union_more, union_all}
use Rattle.zr_audit.proofs.found.put.Goals as goal

pub loop-at-preserved : goal.loop-at-preserved
loop-at-preserved c =
    let from = c.loop-at.invariant.from in
    let more = c.in_ok-at.ensures.more in
    record {
      from = omega (arith, from, more);
      to = c.in_ok-at.ensures.within;
      union = union_more c.args.set.now.extents c.loop-at.set.extents c.put_first.new.set.extents c.args.e.start c.loop-at.at c.in_ok-at.at from (omega (arith, more)) c.loop-at.invariant.union c.in_ok-at.ensures.units;
    }

pub returns : goal.returns
returns c = union_all c.args.set.now.extents c.loop-at.set.extents c.args.e c.loop-at.at c.loop-at-test.false c.loop-at.invariant.to c.loop-at.invariant.union
