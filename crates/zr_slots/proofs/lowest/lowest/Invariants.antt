use Rattle.std.proofs.Common.{ℕ, ◌<◌}
use Rattle.zr_slots.proofs.lowest.lowest.Given as goal

abbrev pub invariant-loop-slot : goal.invariant-loop-slot
invariant-loop-slot g l = (k : ℕ) → k < l.slot → ¬ g.H.Has.has l.it k
