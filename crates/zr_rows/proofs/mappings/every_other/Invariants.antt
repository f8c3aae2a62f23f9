use Rattle.std.proofs.Common.{◌*◌}
use Rattle.zr_rules.specs.Mappings.{IsAfterAll}
use Rattle.zr_rows.proofs.mappings.every_other.Given as goal

abbrev pub invariant-loop-i : goal.invariant-loop-i
invariant-loop-i l = IsAfterAll l.map.entries (record { src = 2 * l.i; dev = 1; dst = l.i; len = 1 })
