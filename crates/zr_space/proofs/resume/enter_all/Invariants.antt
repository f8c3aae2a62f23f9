use Rattle.std.proofs.Common.{length}
use Rattle.zr_space.proofs.Resuming.{IsEntering}
use Rattle.zr_space.proofs.resume.enter_all.Given as goal

abbrev pub invariant-loop-first : goal.invariant-loop-first
invariant-loop-first l = IsEntering l.places l.rest l.initial.devs.items l.devs.items

abbrev pub decreases-loop-first : goal.decreases-loop-first
decreases-loop-first l = length l.rest
