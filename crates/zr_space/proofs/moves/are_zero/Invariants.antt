use Rattle.std.proofs.Common.{◌≡◌, length, replicate}
use Rattle.zr_space.proofs.moves.are_zero.Given as goal

abbrev pub invariant-loop-first : goal.invariant-loop-first
invariant-loop-first l = record {
  all : l.rest ≡ replicate (length l.rest) 0 → l.counts ≡ replicate (length l.counts) 0;
  part : l.counts ≡ replicate (length l.counts) 0 → l.rest ≡ replicate (length l.rest) 0;
}

abbrev pub decreases-loop-first : goal.decreases-loop-first
decreases-loop-first l = length l.rest
