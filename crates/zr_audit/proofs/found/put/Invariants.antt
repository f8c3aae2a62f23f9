use Rattle.std.proofs.Common.{◌-◌, ◌≤◌}
use Rattle.zr_audit.specs.Found.{IsUnionTo}
use Rattle.zr_audit.proofs.found.put.Given as goal

abbrev pub invariant-loop-at : goal.invariant-loop-at
invariant-loop-at l = record {
  from : l.fn.e.start ≤ l.at;
  to : l.at ≤ l.end;
  union : IsUnionTo l.initial.set.extents l.set.extents l.fn.e.start l.at;
}

abbrev pub decreases-loop-at : goal.decreases-loop-at
decreases-loop-at l = l.end - l.at
