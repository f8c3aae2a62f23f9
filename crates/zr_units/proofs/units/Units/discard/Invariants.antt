use Rattle.std.proofs.Common.{◌-◌, ◌≤◌}
use Rattle.zr_base.specs.Extents.{HasAll}
use Rattle.zr_units.specs.Apart.{AreSetsApart}
use Rattle.zr_units.specs.Uses.{IsKeeping}
use Rattle.zr_units.proofs.Discards.{Discarded}
use Rattle.zr_units.proofs.units.Units.discard.Given as goal

abbrev pub invariant-loop-at : goal.invariant-loop-at
invariant-loop-at l = record {
  from : l.fn.e.start ≤ l.at;
  to : l.at ≤ l.end;
  done : Discarded l.initial.self l.self l.fn.e.start l.at;
  kept : HasAll l.self.kept (record { start = l.at; len = l.end - l.at });
  keeping : IsKeeping l.self;
  apart : AreSetsApart l.self.held l.self.freed.blocks;
}

abbrev pub decreases-loop-at : goal.decreases-loop-at
decreases-loop-at l = l.end - l.at
