use Rattle.std.proofs.Common.{◌≡◌, take}
use Rattle.zr_base.specs.Extents.{unit_count}
use Rattle.zr_ranges.proofs.front.count_units.Given as goal

abbrev pub invariant-loop-run : goal.invariant-loop-run
invariant-loop-run l = l.units ≡ unit_count (take l.run-index l.runs)
