use Rattle.std.proofs.Common.{◌≡◌, take}
use Rattle.zr_base.specs.Extents.{longest_len}
use Rattle.zr_ranges.proofs.longest_run.Given as goal

abbrev pub invariant-loop-run : goal.invariant-loop-run
invariant-loop-run l = l.longest ≡ longest_len (take l.run-index l.runs)
