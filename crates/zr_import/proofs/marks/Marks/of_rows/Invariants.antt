use Rattle.std.proofs.Common.{◌≡◌, map, take}
use Rattle.zr_ranges.specs.Ranges.{Ranges}
use Rattle.zr_import.specs.Units.{serving_units}
use Rattle.zr_import.proofs.marks.Marks.of_rows.Given as goal

abbrev pub invariant-loop-row : goal.invariant-loop-row
invariant-loop-row l = record {
  so_far : map (λ (s : Ranges). s.extents) l.left.items ≡ map serving_units (take l.row-index l.rows);
}
