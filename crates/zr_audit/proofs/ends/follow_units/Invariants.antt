use Rattle.zr_audit.specs.Found.{LeadsOn}
use Rattle.zr_rules.specs.Equation.{devices_in}
use Rattle.zr_audit.proofs.ends.follow_units.Given as goal

abbrev pub invariant-loop-k : goal.invariant-loop-k
invariant-loop-k l = LeadsOn (devices_in l.space) (record { dev = l.fn.a.dev; start = l.fn.a.start; len = l.k }) l.initial.met.items l.met.items
