use Rattle.std.proofs.Common.{ℕ, ◌<◌}
use Rattle.zr_slots.proofs.lowest.lowest_pair.Given as goal

abbrev pub invariant-loop-low : goal.invariant-loop-low
invariant-loop-low g l = (k : ℕ) → k < l.low → (c : ℕ) → k < c → ¬ g.B.Between.shared l.it k c
