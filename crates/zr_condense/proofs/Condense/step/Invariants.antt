use Rattle.std.proofs.Common.{◌≡◌, ◌+◌, ◌-◌, ◌≤◌, length}
use Rattle.zr_condense.specs.Condensing.{HasWorked}
use Rattle.zr_condense.proofs.Condense.step.Given as goal

abbrev pub invariant-loop-self : goal.invariant-loop-self
invariant-loop-self l = record {
  worked : HasWorked l.map.entries l.counts l.self;
  to : l.self.at ≤ l.end;
  end_in : l.end ≤ length l.map.entries;
  dev : l.self.dev ≡ l.initial.self.dev;
  kept_is : length l.self.entries ≡ length l.initial.self.entries + l.kept;
  few : l.kept + l.initial.self.at ≤ l.self.at;
}

abbrev pub decreases-loop-self : goal.decreases-loop-self
decreases-loop-self l = l.end - l.self.at
