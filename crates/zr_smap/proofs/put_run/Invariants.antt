use Rattle.std.proofs.Common.{◌≤◌, ◌-◌}
use Rattle.zr_smap.proofs.Cutting.{RestCuts}
use Rattle.zr_smap.proofs.put_run.Given as goal

abbrev pub invariant-loop-at : goal.invariant-loop-at
invariant-loop-at l = record {
  within : l.at ≤ l.end;
  cut : RestCuts l.initial.words.items l.words.items l.most l.dev l.fn.run l.at;
}

abbrev pub decreases-loop-at : goal.decreases-loop-at
decreases-loop-at l = l.end - l.at
