use Rattle.std.proofs.Common.{take, drop}
use Rattle.zr_sync.proofs.SetsFrom.{IsFilling}
use Rattle.zr_sync.proofs.words.set_from.Given as goal

abbrev pub invariant-loop-e : goal.invariant-loop-e
invariant-loop-e l = IsFilling (take l.e-index l.extents) (drop l.e-index l.extents) l.set.extents
