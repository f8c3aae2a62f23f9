use Rattle.zr_slots.proofs.Gathered.{Gathers}
use Rattle.zr_slots.proofs.tables.slots_in_both.Given as goal

abbrev pub invariant-loop-index : goal.invariant-loop-index
invariant-loop-index l = Gathers l.last l.root l.slots l.index l.found
