use Rattle.std.proofs.Common.{◌-◌, ◌≡◌, ℕ, ◌<◌, ◌*◌, ◌^◌, ◌≤◌, max, length}
use Rattle.std.specs.declared.cmp.Ordering.TheVariants.{Less, Greater}
use Rattle.zr_rules.specs.Mappings.{entry_at, entry_order}
use Rattle.zr_imap.proofs.sorted.search.Given as goal

abbrev pub invariant-loop-low : goal.invariant-loop-low
invariant-loop-low g l = record {
  ordered : l.low ≤ l.high;
  within : l.high ≤ length (g.O.Sorted.entries l.sorted);
  below : (i : ℕ) → i < l.low → entry_order (entry_at (g.O.Sorted.entries l.sorted) i) l.u ≡ Less;
  above : (i : ℕ) → l.high ≤ i → i < length (g.O.Sorted.entries l.sorted) → entry_order (entry_at (g.O.Sorted.entries l.sorted) i) l.u ≡ Greater;
  begun : l.initial.steps ≤ l.steps;
  cost : 2 ^ (l.steps - l.initial.steps) * max (2 * (l.high - l.low)) 1 ≤ max (2 * length (g.O.Sorted.entries l.sorted)) 1;
}

abbrev pub decreases-loop-low : goal.decreases-loop-low
decreases-loop-low g l = l.high - l.low
