use Rattle.std.proofs.Common.{◌≡◌, ◌++◌, ◌-◌, ◌≤◌, length}
use Rattle.zr_paged.proofs.change.move_half.Given as goal

abbrev pub invariant-loop-page : goal.invariant-loop-page
invariant-loop-page l = record {
  all : l.low ++ l.page ≡ l.initial.page;
  few : length l.low ≤ 32;
}

abbrev pub decreases-loop-page : goal.decreases-loop-page
decreases-loop-page l = 32 - length l.low
