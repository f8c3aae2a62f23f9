use Rattle.std.proofs.Common.{◌-◌, ◌≡◌, ℕ, ◌<◌, ◌≤◌, true, false, length}
use Rattle.zr_rules.specs.Mappings.{entry_at}
use Rattle.zr_chain.specs.Touches.{begins_before}
use Rattle.zr_chain.proofs.touch.begun_before.Given as goal

abbrev pub invariant-loop-low : goal.invariant-loop-low
invariant-loop-low l = record {
  ordered : l.low ≤ l.high;
  within : l.high ≤ length l.map.entries;
  below : (j : ℕ) → j < l.low → begins_before l.e.start l.e.len (entry_at l.map.entries j) ≡ true;
  from : (j : ℕ) → l.high ≤ j → j < length l.map.entries → begins_before l.e.start l.e.len (entry_at l.map.entries j) ≡ false;
}

abbrev pub decreases-loop-low : goal.decreases-loop-low
decreases-loop-low l = l.high - l.low
