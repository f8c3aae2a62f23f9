use Rattle.std.proofs.Common.{length}
use Rattle.zr_units.specs.Differences.{PutsBelow}
use Rattle.zr_units.proofs.changes.put_below.Given as goal

abbrev pub invariant-loop-e : goal.invariant-loop-e
invariant-loop-e l = PutsBelow l.initial.changes.items l.changes.items l.went l.rest l.below

abbrev pub decreases-loop-e : goal.decreases-loop-e
decreases-loop-e l = length l.rest
