use Rattle.std.proofs.Common.{arith}
use Rattle.zr_base.specs.declared.space.Extent.{Extent}
use Rattle.zr_meta.proofs.Logs.{ends_more, end_past}
use Rattle.zr_meta.proofs.log.ends_by.Goals as goal

abbrev nil : Extent
nil = record { start = 0; len = 0 }

pub returns-then-e-units : goal.returns-then-e-units
returns-then-e-units c = (λ h. absurd cc, λ k. absurd (end_past c.args.units c.loop-e.e-index c.args.extents.now nil c.loop-e-test.true (omega (arith, c.if-e-units.true)) k))

pub returns-then-e-units-2 : goal.returns-then-e-units-2
returns-then-e-units-2 c = (λ h. absurd cc, λ k. absurd (end_past c.args.units c.loop-e.e-index c.args.extents.now nil c.loop-e-test.true (omega (arith, c.if-e-units-2.true)) k))

pub loop-e-preserved : goal.loop-e-preserved
loop-e-preserved c = ends_more c.args.units c.loop-e.e-index c.args.extents.now nil c.loop-e-test.true c.loop-e.invariant (omega (arith, c.if-e-units.false, c.if-e-units-2.false))
