use Rattle.std.proofs.Common.{◌≡◌, ◌+◌, ◌-◌, ◌≤◌, ◌^◌}
use Rattle.zr_paged.proofs.Walking.{above, IsCut}
use Rattle.zr_removal.specs.Devices.{copy_pieces}
use Rattle.zr_removal.proofs.may.copy_pieces.Given as goal

abbrev pub invariant-loop-part : goal.invariant-loop-part
invariant-loop-part l = record {
  cut : IsCut l.at l.set.extents;
  to : l.at ≤ 2 ^ 62;
  so_far : l.pieces + copy_pieces (above l.at l.set.extents) ≡ copy_pieces l.set.extents;
}

abbrev pub decreases-loop-part : goal.decreases-loop-part
decreases-loop-part l = 2 ^ 62 - l.at
