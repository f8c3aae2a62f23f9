use Rattle.std.proofs.Common.{take}
use Rattle.zr_base.specs.Extents.{EndsBy}
use Rattle.zr_meta.proofs.log.ends_by.Given as goal

abbrev pub invariant-loop-e : goal.invariant-loop-e
invariant-loop-e l = EndsBy l.units (take l.e-index l.extents)
