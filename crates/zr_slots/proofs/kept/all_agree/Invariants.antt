use Rattle.std.proofs.Common.{◌≡◌, ◌<◌, ℕ}
use Rattle.zr_image.specs.Current.{IsShownAt}
use Rattle.zr_label.specs.declared.root.Uber.{Uber}
use Rattle.zr_slots.proofs.kept.all_agree.Given as goal

abbrev pub invariant-loop-slot : goal.invariant-loop-slot
invariant-loop-slot l = (k : ℕ) → k < l.slot → (v : Uber) → IsShownAt l.seen k v → v.txg ≡ l.u.txg → v ≡ l.u
