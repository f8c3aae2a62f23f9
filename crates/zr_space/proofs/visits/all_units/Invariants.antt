use Rattle.std.proofs.Common.{◌≡◌, ◌+◌, length}
use Rattle.zr_space.specs.FreeVisits.{all_units}
use Rattle.zr_space.proofs.visits.all_units.Given as goal

abbrev pub invariant-loop-first : goal.invariant-loop-first
invariant-loop-first l = record {
  so_far : l.count + all_units l.rest ≡ all_units l.visits;
}

abbrev pub decreases-loop-first : goal.decreases-loop-first
decreases-loop-first l = length l.rest
