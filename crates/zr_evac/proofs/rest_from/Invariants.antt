use Rattle.std.proofs.Common.{◌≡◌, ℕ, ◌≤◌, ◌&&◌, drop, length}
use Rattle.std.specs.Prelude.{nat_le}
use Rattle.zr_base.specs.Extents.{has_unit, IsMaximal}
use Rattle.zr_evac.proofs.rest_from.Given as goal

abbrev pub invariant-loop-count : goal.invariant-loop-count
invariant-loop-count l = record {
  within : l.count ≤ length l.held.extents;
  units : (u : ℕ) → has_unit l.rest.extents u ≡ (has_unit (drop l.count l.held.extents) u && nat_le l.fn.from u);
  rising : IsMaximal l.rest.extents;
  maximal : IsMaximal l.held.extents;
}

abbrev pub decreases-loop-count : goal.decreases-loop-count
decreases-loop-count l = l.count
