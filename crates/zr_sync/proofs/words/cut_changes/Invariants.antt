use Rattle.std.proofs.Common.{length}
use Rattle.std.specs.List.{AllByRecursion}
use Rattle.zr_base.specs.declared.space.Change.{Change}
use Rattle.zr_rules.specs.Logs.{IsChange}
use Rattle.zr_sync.specs.Words.{IsRun}
use Rattle.zr_sync.proofs.Growing.{HasCut}
use Rattle.zr_sync.proofs.words.cut_changes.Given as goal

abbrev pub invariant-loop-change : goal.invariant-loop-change
invariant-loop-change l = record {
  lawful : AllByRecursion (IsChange l.version) l.cut.items;
  runs : AllByRecursion (λ (c : Change). IsRun c.at) l.rest;
  cut : HasCut l.fn.changes l.cut.items l.rest;
}

abbrev pub decreases-loop-change : goal.decreases-loop-change
decreases-loop-change l = length l.rest
