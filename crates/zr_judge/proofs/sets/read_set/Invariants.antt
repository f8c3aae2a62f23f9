use Rattle.std.proofs.Common.{take, drop}
use Rattle.zr_space.proofs.Reading.{IsReading}
use Rattle.zr_judge.proofs.sets.read_set.Given as goal

abbrev pub invariant-loop-e : goal.invariant-loop-e
invariant-loop-e l = IsReading (take l.e-index l.extents) (drop l.e-index l.extents) l.extents l.initial.used.extents l.used.extents l.set.extents l.low l.units
