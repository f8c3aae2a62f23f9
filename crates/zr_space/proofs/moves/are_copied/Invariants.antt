use Rattle.std.proofs.Common.{length}
use Rattle.zr_space.specs.Reads.{AreCopied}
use Rattle.zr_space.proofs.moves.are_copied.Given as goal

abbrev pub invariant-loop-first : goal.invariant-loop-first
invariant-loop-first l = record {
  all : AreCopied l.moves.entries l.moves.fresh l.rest l.opened → AreCopied l.moves.entries l.moves.fresh l.held.extents l.opened;
  part : AreCopied l.moves.entries l.moves.fresh l.held.extents l.opened → AreCopied l.moves.entries l.moves.fresh l.rest l.opened;
}

abbrev pub decreases-loop-first : goal.decreases-loop-first
decreases-loop-first l = length l.rest
