use Rattle.std.proofs.Common.{◌≡◌, ℕ, ◌<◌, get_or}
use Rattle.zr_label.specs.Blocks.{no_row}
use Rattle.zr_slots.proofs.same.are_same_rows.Given as goal

abbrev pub invariant-loop-i : goal.invariant-loop-i
invariant-loop-i l = (k : ℕ) → k < l.i → get_or l.a k no_row ≡ get_or l.b k no_row
