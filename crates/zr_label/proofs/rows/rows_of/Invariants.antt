use Rattle.std.proofs.Common.{◌≡◌, map, take, length}
use Rattle.zr_label.specs.Fields.{row_fields}
use Rattle.zr_label.proofs.rows.rows_of.Given as goal

abbrev pub invariant-loop-i : goal.invariant-loop-i
invariant-loop-i l = (length l.rows ≡ 32) × (take l.i l.rows ≡ map row_fields (take l.i l.pieces))
