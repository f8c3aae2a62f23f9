use Rattle.std.proofs.Common.{take}
use Rattle.zr_audit.specs.Found.{AreEnds}
use Rattle.zr_rules.specs.Equation.{devices_in}
use Rattle.zr_audit.proofs.ends.ends_of.Given as goal

abbrev pub invariant-loop-a : goal.invariant-loop-a
invariant-loop-a l = AreEnds (devices_in l.space) (take l.a-index l.list) l.met.items
