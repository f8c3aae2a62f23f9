use Rattle.std.proofs.Common.{◌≡◌, map, take}
use Rattle.zr_ranges.specs.Ranges.{Ranges}
use Rattle.zr_import.proofs.marks.Marks.of_held.Given as goal

abbrev pub invariant-loop-part : goal.invariant-loop-part
invariant-loop-part l = record {
  so_far : map (λ (s : Ranges). s.extents) l.left.items ≡ map (λ p. p.held) (take l.part-index l.parts);
}
