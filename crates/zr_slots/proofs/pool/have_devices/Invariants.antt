use Rattle.std.proofs.Common.{◌≡◌, ℕ, ◌<◌, false}
use Rattle.zr_image.specs.Current.{is_missing}
use Rattle.zr_slots.proofs.pool.have_devices.Given as goal

abbrev pub invariant-loop-index : goal.invariant-loop-index
invariant-loop-index l = (k : ℕ) → k < l.index → is_missing l.u l.seen k ≡ false
