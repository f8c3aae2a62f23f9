use Rattle.std.proofs.Common.{◌≡◌, ℕ, ◌+◌, ◌-◌, ◌≤◌, ◌<◌, true}
use Rattle.zr_rules.specs.Mappings.{has_source}
use Rattle.zr_imap.proofs.image.first_gap.Given as goal

abbrev pub invariant-loop-i : goal.invariant-loop-i
invariant-loop-i g l = record {
  from : l.fn.e.start ≤ l.u;
  before : (v : ℕ) → l.fn.e.start ≤ v → v < l.u → has_source (g.O.Sorted.entries l.sorted) v ≡ true;
}

abbrev pub decreases-loop-i : goal.decreases-loop-i
decreases-loop-i g l = l.fn.e.start + l.fn.e.len - l.u
