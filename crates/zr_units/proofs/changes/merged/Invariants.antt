use Rattle.std.proofs.Common.{drop}
use Rattle.zr_units.proofs.Merging.{IsMerging}
use Rattle.zr_units.proofs.changes.merged.Given as goal

abbrev pub invariant-loop-e : goal.invariant-loop-e
invariant-loop-e l = IsMerging l.came l.went (drop l.e-index l.came) l.rest l.changes.items
