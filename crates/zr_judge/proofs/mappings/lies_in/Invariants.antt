use Rattle.std.proofs.Common.{length}
use Rattle.zr_obsolete.specs.Obsolete.{LiesIn}
use Rattle.zr_judge.proofs.mappings.lies_in.Given as goal

abbrev pub invariant-loop-first : goal.invariant-loop-first
invariant-loop-first l = record {
  all : LiesIn l.rest l.map.entries → LiesIn l.set.extents l.map.entries;
  part : LiesIn l.set.extents l.map.entries → LiesIn l.rest l.map.entries;
}

abbrev pub decreases-loop-first : goal.decreases-loop-first
decreases-loop-first l = length l.rest
