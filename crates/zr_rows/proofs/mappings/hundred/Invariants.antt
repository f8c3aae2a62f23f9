use Rattle.std.proofs.Common.{◌≡◌, ◌+◌, length}
use Rattle.zr_rules.specs.Mappings.{IsAfterAll}
use Rattle.zr_rows.proofs.mappings.hundred.Given as goal

abbrev pub invariant-loop-i : goal.invariant-loop-i
invariant-loop-i l = record {
  after : IsAfterAll l.map.entries (record { src = l.i; dev = 1; dst = 1000 + l.i; len = 1 });
  count : length l.map.entries ≡ l.i;
}
