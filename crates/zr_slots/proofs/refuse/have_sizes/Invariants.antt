use Rattle.std.proofs.Common.{◌≡◌, ℕ, ◌<◌, true}
use Rattle.std.specs.Prelude.{slice_index}
use Rattle.zr_label.specs.Geometry.{is_disk_size}
use Rattle.zr_slots.proofs.refuse.have_sizes.Given as goal

abbrev pub invariant-loop-i : goal.invariant-loop-i
invariant-loop-i l = (k : ℕ) → k < l.i → is_disk_size l.version (slice_index l.sizes (slice_index l.named k)) ≡ true
