use Rattle.std.proofs.Common.{◌<◌, ℕ}
use Rattle.zr_image.specs.Current.{row_at}
use Rattle.zr_image.specs.Roots.{IsRowStill}
use Rattle.zr_import.proofs.saved.are_rows_still.Given as goal

abbrev pub invariant-loop-index : goal.invariant-loop-index
invariant-loop-index l = (d : ℕ) → d < l.index → IsRowStill (row_at l.saved d) (row_at l.now d)
