use Rattle.std.proofs.Common.{◌≢◌, ◌<◌, ℕ}
use Rattle.zr_image.specs.Current.{IsShownAt}
use Rattle.zr_label.specs.declared.root.Uber.{Uber}
use Rattle.zr_slots.proofs.kept.first_shown.Given as goal

abbrev pub invariant-loop-slot : goal.invariant-loop-slot
invariant-loop-slot l = (k : ℕ) → k < l.slot → (u : Uber) → IsShownAt l.seen k u → u.txg ≢ l.txg
