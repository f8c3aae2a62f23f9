use Rattle.std.proofs.Common.{◌≡◌, ℕ, ◌<◌, false}
use Rattle.zr_image.specs.Current.{seen_at, is_device}
use Rattle.zr_slots.proofs.pool.slot_of_device.Given as goal

abbrev pub invariant-loop-slot : goal.invariant-loop-slot
invariant-loop-slot l = (k : ℕ) → k < l.slot → is_device l.u l.index (seen_at l.seen k).label ≡ false
