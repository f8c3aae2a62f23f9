use Rattle.std.proofs.Common.{◌≡◌, ◌≤◌, ◌++◌, take}
use Rattle.zr_sync.proofs.mappings.entries_from.Given as goal

abbrev pub invariant-loop-i : goal.invariant-loop-i
invariant-loop-i l = record {
  above : l.from ≤ l.i;
  tail : take l.i l.map.entries ≡ take l.from l.map.entries ++ l.tail.items;
}
