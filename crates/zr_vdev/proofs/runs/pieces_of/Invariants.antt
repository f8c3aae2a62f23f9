use Rattle.std.proofs.Common.{◌≡◌, ◌++◌}
use Rattle.zr_chain.specs.Visits.{pieces_of}
use Rattle.zr_vdev.proofs.runs.pieces_of.Given as goal

-- the parts so far, and those of the visits that are left
abbrev pub invariant-loop-visit : goal.invariant-loop-visit
invariant-loop-visit l = l.pieces.items ++ pieces_of l.visit-iterator.rest.items ≡ pieces_of l.fn.visits.items
