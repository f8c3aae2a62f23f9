use Rattle.std.proofs.Common.{◌≡◌, ◌≤◌}
use Rattle.zr_metaslab.specs.Devices.{free_of}
use Rattle.zr_space.proofs.Planning.{IsHalving}
use Rattle.zr_space.proofs.copy.take_half.Given as goal

abbrev pub invariant-loop-want : goal.invariant-loop-want
invariant-loop-want g l = record {
  same : l.slabs ≡ l.initial.slabs;
  most : l.want ≤ l.most;
  halves : IsHalving (free_of l.initial.slabs) l.most l.want;
}

abbrev pub decreases-loop-want : goal.decreases-loop-want
decreases-loop-want g l = l.want
