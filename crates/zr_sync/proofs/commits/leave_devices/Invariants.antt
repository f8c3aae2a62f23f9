use Rattle.std.proofs.Common.{◌≡◌}
use Rattle.zr_vdev.specs.Stores.{KeepsOthers}
use Rattle.zr_vdev.specs.declared.kind.Kind.TheVariants.{Meta}
use Rattle.zr_sync.proofs.commits.leave_devices.Given as goal

abbrev pub invariant-loop-dev : goal.invariant-loop-dev
invariant-loop-dev l = record {
  others : KeepsOthers Meta l.fn.pool.space l.pool.space;
  rest : l.pool ≡ record l.fn.pool { space = l.pool.space };
}
