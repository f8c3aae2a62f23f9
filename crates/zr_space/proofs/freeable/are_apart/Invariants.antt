use Rattle.std.proofs.Common.{length}
use Rattle.zr_space.specs.Freeing.{AreApart}
use Rattle.zr_space.proofs.freeable.are_apart.Given as goal

abbrev pub invariant-loop-first : goal.invariant-loop-first
invariant-loop-first l = record {
  all : AreApart l.rest → AreApart l.visits;
  part : AreApart l.visits → AreApart l.rest;
}

abbrev pub decreases-loop-first : goal.decreases-loop-first
decreases-loop-first l = length l.rest
