use Rattle.std.proofs.Common.{ℕ, ◌<◌}
use Rattle.zr_label.specs.declared.root.Newer.{Newer}
use Rattle.zr_image.specs.Current.{IsUnknown}
use Rattle.zr_slots.proofs.unknown.known.Given as goal

abbrev pub invariant-loop-slot : goal.invariant-loop-slot
invariant-loop-slot l = (k : ℕ) → k < l.slot → (x : Newer) → ¬ IsUnknown l.seen k x
