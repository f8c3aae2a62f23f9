use Rattle.std.proofs.Common.{◌≡◌}
use Rattle.std.specs.Prelude.{Contains}
use Rattle.zr_label.specs.declared.root.Uber.{Uber}
use Rattle.zr_slots.specs.Checks.{IsOther}
use Rattle.zr_slots.proofs.Passing.{NoneYet}
use Rattle.zr_slots.proofs.copies.differ.Given as goal

abbrev pub invariant-loop-i : goal.invariant-loop-i
invariant-loop-i l = NoneYet (λ (u : Uber). (u.txg ≡ l.txg) × (v : Uber) × Contains l.vs v × IsOther u v) l.us l.i
