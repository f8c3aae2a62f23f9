use Rattle.std.proofs.Common.{◌<◌, arith}
use Rattle.zr_paged.proofs.Whole.{drop_rises}
use Rattle.zr_import.proofs.marks.set_of.Goals as goal

pub push_first-requires : goal.push_first-requires
push_first-requires c =
    let some : 0 < c.loop-count.count = omega (arith, c.loop-count-test.true) in
    rw (c.loop-count.invariant.done) (drop_rises c.loop-count.count c.args.extents.now c.loop-count.invariant.maximal some c.loop-count.invariant.within)
