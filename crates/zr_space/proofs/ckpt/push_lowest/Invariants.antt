use Rattle.std.proofs.Common.{◌≡◌, ◌++◌, take}
use Rattle.zr_paged.proofs.Walking.{above, IsCut}
use Rattle.zr_space.specs.Discards.{on_device}
use Rattle.zr_space.proofs.ckpt.push_lowest.Given as goal

abbrev pub invariant-loop-missing : goal.invariant-loop-missing
invariant-loop-missing l = record {
  cut : IsCut l.at l.kept.extents;
  so_far : l.list.items ++ take l.missing (on_device l.dev (above l.at l.kept.extents)) ≡ l.initial.list.items ++ take l.n (on_device l.dev l.kept.extents);
}

abbrev pub decreases-loop-missing : goal.decreases-loop-missing
decreases-loop-missing l = l.missing
