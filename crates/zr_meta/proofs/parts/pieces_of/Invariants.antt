use Rattle.std.proofs.Common.{◌≡◌, ◌++◌, ◌≤◌, length, sum_by}
use Rattle.zr_meta.specs.Parts.{pieces}
use Rattle.zr_meta.proofs.parts.pieces_of.Given as goal

abbrev pub invariant-loop-s : goal.invariant-loop-s
invariant-loop-s l = record {
  whole : l.found ++ pieces l.left l.rest ≡ pieces l.fn.streams l.fn.words;
  enough : sum_by (λ s. s.words) l.left ≤ length l.rest;
}

abbrev pub decreases-loop-s : goal.decreases-loop-s
decreases-loop-s l = length l.left
