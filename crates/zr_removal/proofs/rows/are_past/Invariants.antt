use Rattle.std.proofs.Common.{length}
use Rattle.zr_removal.specs.Rows.{ArePast}
use Rattle.zr_removal.proofs.rows.are_past.Given as goal

abbrev pub invariant-loop-first : goal.invariant-loop-first
invariant-loop-first l = record {
  all : ArePast l.txg l.rest → ArePast l.txg l.rows;
  part : ArePast l.txg l.rows → ArePast l.txg l.rest;
}

abbrev pub decreases-loop-first : goal.decreases-loop-first
decreases-loop-first l = length l.rest
