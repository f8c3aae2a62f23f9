use Rattle.zr_slots.specs.Checks.{IsOther}
use Rattle.zr_slots.proofs.Passing.{NoneYet}
use Rattle.zr_slots.proofs.copies.other_in.Given as goal

abbrev pub invariant-loop-i : goal.invariant-loop-i
invariant-loop-i l = NoneYet (IsOther l.u) l.us l.i
