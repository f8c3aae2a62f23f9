use Rattle.std.proofs.Common.{◌≡◌, take}
use Rattle.zr_change.specs.Plans.{olds_of}
use Rattle.zr_change.proofs.plans.olds.Given as goal

abbrev pub invariant-loop-p : goal.invariant-loop-p
invariant-loop-p l = l.olds.items ≡ olds_of (take l.p-index l.plan)
