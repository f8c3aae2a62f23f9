use Rattle.std.proofs.Common.{◌≡◌, ◌++◌, map, take}
use Rattle.zr_base.specs.declared.space.Extent.{Extent}
use Rattle.zr_space.proofs.records.put_runs.Given as goal

abbrev pub invariant-loop-e : goal.invariant-loop-e
invariant-loop-e l = l.runs ≡ l.initial.runs ++ map (λ (e : Extent). record { at = e; meta = l.meta }) (take l.e-index l.extents)
