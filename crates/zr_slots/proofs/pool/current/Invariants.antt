use Rattle.zr_slots.proofs.Newest.{IsHighestYet}
use Rattle.zr_slots.proofs.pool.current.Given as goal

abbrev pub invariant-loop-slot : goal.invariant-loop-slot
invariant-loop-slot l = IsHighestYet l.seen l.slot l.found
