use Rattle.std.proofs.Common.{◌≡◌, ◌+◌, ◌-◌, ◌≤◌, ◌^◌}
use Rattle.std.specs.List.{AllByRecursion}
use Rattle.zr_rules.specs.Logs.{IsChange}
use Rattle.zr_sync.proofs.Growing.{CutsTo}
use Rattle.zr_sync.proofs.words.put_cut.Given as goal

abbrev pub invariant-loop-start : goal.invariant-loop-start
invariant-loop-start l = record {
  lawful : AllByRecursion (IsChange l.version) l.cut.items;
  near : l.end ≤ 2 ^ 26;
  whole : l.end ≡ l.change.at.start + l.change.at.len;
  from : l.change.at.start ≤ l.start;
  upto : l.start ≤ l.end;
  cut : CutsTo l.fn.cut.items l.cut.items l.change l.start;
}

abbrev pub decreases-loop-start : goal.decreases-loop-start
decreases-loop-start l = l.end - l.start
