use Rattle.std.proofs.Common.{take}
use Rattle.zr_audit.proofs.Puts.{HasUnits}
use Rattle.zr_audit.proofs.found.put_units.Given as goal

abbrev pub invariant-loop-e : goal.invariant-loop-e
invariant-loop-e l = HasUnits l.initial.set.extents l.set.extents (take l.e-index l.other) l.units
