use Rattle.std.proofs.Common.{ℕ, ◌<◌}
use Rattle.zr_slots.proofs.lowest.partner.Given as goal

abbrev pub invariant-loop-b : goal.invariant-loop-b
invariant-loop-b g l = (k : ℕ) → k < l.b → l.a < k → ¬ g.B.Between.shared l.it l.a k
