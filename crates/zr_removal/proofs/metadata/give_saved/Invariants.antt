use Rattle.std.proofs.Common.{◌≡◌, ◌+◌, false, [], if◌then◌else◌}
use Rattle.zr_space.specs.Saved.{saved_left}
use Rattle.zr_removal.specs.Metadata.{GivesMetadata}
use Rattle.zr_removal.proofs.metadata.give_saved.Given as goal

abbrev pub invariant-loop-more : goal.invariant-loop-more
invariant-loop-more l = record {
  gives : GivesMetadata l.fn.space l.space;
  none : l.more ≡ false → l.space.saved_meta ≡ [];
  idle : l.fn.space.saved_meta ≡ [] → l.space ≡ l.fn.space;
}

abbrev pub decreases-loop-more : goal.decreases-loop-more
decreases-loop-more l = saved_left l.space + (if l.more then 1 else 0)
