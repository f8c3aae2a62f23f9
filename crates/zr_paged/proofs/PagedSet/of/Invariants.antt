use Rattle.std.proofs.Common.{◌≡◌, ◌≤◌, drop, length}
use Rattle.zr_base.specs.Extents.{IsMaximal}
use Rattle.zr_paged.proofs.PagedSet.of.Given as goal

abbrev pub invariant-loop-count : goal.invariant-loop-count
invariant-loop-count l = record {
  within : l.count ≤ length l.set.extents;
  done : l.paged.extents ≡ drop l.count l.set.extents;
  maximal : IsMaximal l.set.extents;
}

abbrev pub decreases-loop-count : goal.decreases-loop-count
decreases-loop-count l = l.count
