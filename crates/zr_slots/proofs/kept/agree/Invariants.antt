use Rattle.std.proofs.Common.{◌≡◌}
use Rattle.zr_label.specs.declared.root.Uber.{Uber}
use Rattle.zr_slots.proofs.Window.{AllYet}
use Rattle.zr_slots.proofs.kept.agree.Given as goal

abbrev pub invariant-loop-i : goal.invariant-loop-i
invariant-loop-i l = AllYet (λ (v : Uber). v.txg ≡ l.u.txg → v ≡ l.u) l.us l.i
