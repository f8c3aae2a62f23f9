use Rattle.std.proofs.Common.{take}
use Rattle.zr_label.proofs.Newest.{IsBestOf}
use Rattle.zr_label.proofs.root.best.Given as goal

abbrev pub invariant-loop-u : goal.invariant-loop-u
invariant-loop-u l = IsBestOf (take l.u-index l.us) l.found
