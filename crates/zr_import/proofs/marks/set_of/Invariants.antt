use Rattle.std.proofs.Common.{◌≡◌, ◌≤◌, drop, length}
use Rattle.zr_base.specs.Extents.{IsMaximal}
use Rattle.zr_import.proofs.marks.set_of.Given as goal

abbrev pub invariant-loop-count : goal.invariant-loop-count
invariant-loop-count l = record {
  within : l.count ≤ length l.extents;
  done : l.set.extents ≡ drop l.count l.extents;
  maximal : IsMaximal l.extents;
}

abbrev pub decreases-loop-count : goal.decreases-loop-count
decreases-loop-count l = l.count
