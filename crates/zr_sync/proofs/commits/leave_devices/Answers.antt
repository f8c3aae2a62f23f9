use Rattle.std.proofs.Common.{refl, ap, arith, rules}
use Rattle.zr_vdev.specs.declared.kind.Kind.TheVariants.{Meta}
use Rattle.zr_vdev.proofs.Follows.{others_itself, others_more}
use Rattle.zr_sync.specs.declared.open.OpenPool.{OpenPool}
use Rattle.zr_sync.proofs.commits.leave_devices.Goals as goal
use Rattle.zr_sync.proofs.commits.leave_devices.Goals.{then-eq+in_ok-leave_device, else-eq}

pub loop-dev-init : goal.loop-dev-init
loop-dev-init c = record { others = others_itself Meta c.args.pool.now.space; rest = refl }

pub leave_device-requires : goal.leave_device-requires
leave_device-requires c =
    let o = c.requires.pool.1 in
    let devices = o.devices in
    let same = c.loop-dev.invariant.others.rows.devices in
    let lt = c.loop-dev-test.true in
    let table = ap (λ (p : OpenPool). p.table.count) c.loop-dev.invariant.rest in
    omega (arith, devices, same, lt, table)

pub returns-in_err-leave_device-clause-others : goal.returns-in_err-leave_device-clause-others
returns-in_err-leave_device-clause-others c = others_more Meta c.args.pool.now.space c.loop-dev.pool.space c.leave_device.new.space c.loop-dev.invariant.others c.leave_device.ensures.others

pub loop-dev-preserved : goal.loop-dev-preserved
loop-dev-preserved c = elim c.if-eq.branch [
  | then-eq+in_ok-leave_device w ↦
      let others = others_more Meta c.args.pool.now.space c.loop-dev.pool.space w.leave_device.new.space c.loop-dev.invariant.others w.leave_device.ensures.others in
      search (rules, others, w.pool-is, c.loop-dev.invariant.rest)
  | else-eq w ↦ search (rules, w.pool-is, c.loop-dev.invariant)
]
