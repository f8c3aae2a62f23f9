use Rattle.std.proofs.Common.{◌≡◌, ◌++◌, map, take}
use Rattle.zr_meta.proofs.late.put_runs.Given as goal

abbrev pub invariant-loop-e : goal.invariant-loop-e
invariant-loop-e l = l.runs ≡ l.fn.runs ++ map (λ e. record { at = e; meta = l.meta }) (take l.e-index l.extents)
