use Rattle.std.proofs.Common.{◌<◌, length, ap, sym, subst, arith}
use Rattle.zr_base.specs.declared.space.Columns.{Columns}
use Rattle.zr_rules.specs.Equation.{devices_in}
use Rattle.zr_audit.specs.Found.{AreEnds, found, allocated_units}
use Rattle.zr_audit.proofs.Finds.{next_found, one_more, each_done, all_walked, all_equal}
use Rattle.zr_audit.proofs.walk.audit.Goals as goal

pub loop-dev-preserved : goal.loop-dev-preserved
loop-dev-preserved c =
    let s = c.args.space.now in
    let below = c.loop-dev-test.true in
    let count = c.devices-dev-end.ensures in
    let known : c.loop-dev.dev < length s.parts.devs = omega (arith, below, count) in
    record {
      walked = next_found s c.args.live.now c.args.meta.now c.as_slice.result.now c.as_slice-in-loop-dev.result.now c.in_ok-copies.copies.extents c.loop-dev.dev c.units_of.result c.in_ok-units.units c.loop-dev.walked c.push.new.self
          (subst (AreEnds (devices_in s) c.args.live.now) (sym c.as_slice.ensures.value) c.in_ok-live_ends.ensures) (subst (AreEnds (devices_in s) c.args.meta.now) (sym c.as_slice-in-loop-dev.ensures.value) c.in_ok-meta_ends.ensures) c.in_ok-copies.ensures c.units_of.ensures c.in_ok-units.ensures c.loop-dev.invariant.walked c.in_ok-push.ensures;
      allocated = one_more (allocated_units s) c.loop-dev.dev c.columns.result.allocated c.loop-dev.allocated c.push-in-loop-dev.new.self (ap (λ (x : Columns). x.allocated) c.columns.ensures) c.loop-dev.invariant.allocated c.in_ok-push-2.ensures;
    }

pub returns-clause-walked : goal.returns-clause-walked
returns-clause-walked c =
    let s = c.args.space.now in
    all_walked s c.args.live.now c.args.meta.now c.loop-dev.walked (each_done s (found s c.args.live.now c.args.meta.now) c.loop-dev.walked c.loop-dev.dev c.devices-dev-end.result c.devices-dev-end.ensures c.loop-dev-test.false c.loop-dev.auto.dev-end c.loop-dev.invariant.walked)

pub returns-clause-equal : goal.returns-clause-equal
returns-clause-equal c saved adds metadata =
    let s = c.args.space.now in
    all_equal s c.args.live.now c.args.meta.now c.loop-dev.walked c.loop-dev.allocated saved
    (each_done s (found s c.args.live.now c.args.meta.now) c.loop-dev.walked c.loop-dev.dev c.devices-dev-end.result c.devices-dev-end.ensures c.loop-dev-test.false c.loop-dev.auto.dev-end c.loop-dev.invariant.walked)
    (each_done s (allocated_units s) c.loop-dev.allocated c.loop-dev.dev c.devices-dev-end.result c.devices-dev-end.ensures c.loop-dev-test.false c.loop-dev.auto.dev-end c.loop-dev.invariant.allocated)
    adds metadata
