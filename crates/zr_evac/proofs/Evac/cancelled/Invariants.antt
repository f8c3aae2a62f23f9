use Rattle.std.proofs.Common.{◌≡◌, ℕ, take}
use Rattle.zr_evac.specs.Evacuations.{AreLawful, hits_at, copies_at}
use Rattle.zr_evac.proofs.Evac.cancelled.Given as goal

abbrev pub invariant-loop-i : goal.invariant-loop-i
invariant-loop-i l = record {
  hits : (d u : ℕ) → hits_at l.list.items d u ≡ copies_at l.self.marks (take l.i l.self.entries) d u;
  lawful : AreLawful l.list.items;
}
