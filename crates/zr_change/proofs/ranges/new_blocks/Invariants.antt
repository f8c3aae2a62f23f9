use Rattle.std.proofs.Common.{◌≡◌, ◌-◌, ◌≤◌}
use Rattle.std.specs.List.{range_with_len}
use Rattle.zr_change.specs.Changes.{new_in}
use Rattle.zr_change.proofs.ranges.new_blocks.Given as goal

abbrev pub invariant-loop-index : goal.invariant-loop-index
invariant-loop-index l = record {
  new : l.new ≡ new_in l.group l.id (range_with_len l.first (l.index - l.first));
  most : l.new ≤ l.index - l.first;
}
