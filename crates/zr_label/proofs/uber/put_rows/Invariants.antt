use Rattle.std.proofs.Common.{◌≡◌, ◌++◌, ℕ, List, length, take}
use Rattle.std.specs.List.{flat_map}
use Rattle.zr_label.specs.Blocks.{IsFilled, row_bytes}
use Rattle.zr_label.proofs.uber.put_rows.Given as goal

abbrev pub invariant-loop-i : goal.invariant-loop-i
invariant-loop-i l = (done : List ℕ) → length done ≡ 256 → IsFilled l.fn.block done → IsFilled l.block (done ++ flat_map row_bytes (take l.i l.rows))
