use Rattle.std.proofs.Common.{◌≡◌}
use Rattle.zr_label.specs.declared.root.Uber.{Uber}
use Rattle.zr_slots.proofs.Passing.{NoneYet}
use Rattle.zr_slots.proofs.kept.first_in.Given as goal

abbrev pub invariant-loop-i : goal.invariant-loop-i
invariant-loop-i l = NoneYet (λ (u : Uber). u.txg ≡ l.txg) l.us l.i
