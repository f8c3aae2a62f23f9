use Rattle.std.proofs.Common.{◌≡◌, ◌++◌, ◌≤◌, length, sum_by}
use Rattle.zr_meta.specs.Heads.{stream_count}
use Rattle.zr_meta.specs.Parts.{devices_words}
use Rattle.zr_meta.proofs.parts.devices_words.Given as goal

abbrev pub invariant-loop-row : goal.invariant-loop-row
invariant-loop-row l = record {
  whole : l.found ++ devices_words l.form l.left l.rest ≡ devices_words l.form l.fn.table l.fn.pieces;
  enough : sum_by (λ r. stream_count l.form r.state) l.left ≤ length l.rest;
}

abbrev pub decreases-loop-row : goal.decreases-loop-row
decreases-loop-row l = length l.left
