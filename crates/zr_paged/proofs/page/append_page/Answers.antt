use Rattle.std.proofs.Common.{◌<◌, List, length, ap, arith}
use Rattle.zr_base.specs.declared.space.Extent.{Extent}
use Rattle.zr_paged.proofs.Whole.{take_run}
use Rattle.zr_paged.proofs.page.append_page.Goals as goal

pub append_run-requires : goal.append_run-requires
append_run-requires c =
    let len = ap (λ (l : List Extent). length l) c.extents-runs.ensures.extents in
    let same = ap (λ (l : List Extent). length l) c.page.view_is in
    let inside : c.loop-i.i < length c.args.page.now = omega (arith, c.loop-i-test.true, len, same) in
    rw (c.loop-i.invariant, c.extents-runs.ensures.extents, c.page.view_is) (take_run 0 c.loop-i.i c.args.set.now.extents c.args.page.now c.requires inside)
