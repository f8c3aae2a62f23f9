use Rattle.std.proofs.Common.{◌≡◌, ◌≤◌}
use Rattle.zr_label.specs.declared.root.Uber.{Uber}
use Rattle.zr_slots.proofs.Passing.{NoneYet}
use Rattle.zr_slots.proofs.unknown.reaches.Given as goal

abbrev pub invariant-loop-u : goal.invariant-loop-u
invariant-loop-u l = NoneYet (λ (u : Uber). (u.guid ≡ l.guid) × (l.txg ≤ u.txg)) l.us l.u-index
