use Rattle.std.proofs.Common.{◌≡◌, ◌+◌, false, if◌then◌else◌}
use Rattle.zr_space.specs.Metadata.{HasNoMeta, meta_left}
use Rattle.zr_vdev.specs.Stores.{KeepsOthers}
use Rattle.zr_vdev.specs.declared.kind.Kind.TheVariants.{Meta}
use Rattle.zr_sync.proofs.commits.leave_device.Given as goal

abbrev pub invariant-loop-more : goal.invariant-loop-more
invariant-loop-more l = record {
  others : KeepsOthers Meta l.fn.space l.space;
  none : l.more ≡ false → HasNoMeta l.space l.dev;
}

abbrev pub decreases-loop-more : goal.decreases-loop-more
decreases-loop-more l = meta_left l.space + (if l.more then 1 else 0)
