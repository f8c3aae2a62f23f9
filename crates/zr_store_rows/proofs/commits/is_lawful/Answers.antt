use Rattle.std.proofs.Common.{◌<◌, length, arith, rules}
use Rattle.zr_commit.proofs.Entries.{each_more}
use Rattle.zr_store_rows.proofs.commits.is_lawful.Goals as goal

pub loop-i-preserved : goal.loop-i-preserved
loop-i-preserved c =
    let es = c.args.group.now.objects in
    let lt : c.loop-i.i < length es = omega (arith, c.loop-i-test.true, c.loop-i.invariant.count) in
    record {
      count = c.loop-i.invariant.count;
      rising = c.loop-i.invariant.rising;
      so_far = each_more es c.loop-i.i lt c.loop-i.invariant.so_far (c.is_change.ensures (search rules));
    }
