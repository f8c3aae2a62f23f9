use Rattle.zr_base.specs.declared.space.Extent.{Extent}
use Rattle.zr_audit.proofs.Puts.{units_more, units_all}
use Rattle.zr_audit.proofs.found.put_units.Goals as goal

pub loop-e-preserved : goal.loop-e-preserved
loop-e-preserved c =
    let no_units : Extent = record { start = 0; len = 0 } in
    units_more c.args.set.now.extents c.loop-e.set.extents c.put.new.set.extents c.args.other.now c.loop-e.e-index c.args.units no_units c.below.result
    c.loop-e-test.true c.loop-e.invariant c.in_ok-put.ensures c.below.ensures.units

pub returns : goal.returns
returns c = units_all c.args.set.now.extents c.loop-e.set.extents c.args.other.now c.loop-e.e-index c.args.units c.loop-e-test.false c.loop-e.invariant
