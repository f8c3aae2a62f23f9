use Rattle.std.proofs.Common.{sym, arith}
use Rattle.zr_ranges.proofs.Cuts.{run_of-at, run_of-gap}
use Rattle.zr_ranges.proofs.run_with.Goals as goal
use Rattle.zr_ranges.proofs.run_with.Goals.{else-i-runs-via-then-i-runs+else-runs-i, else-i-runs-via-else-i-runs}

pub returns-then-runs-i : goal.returns-then-runs-i
returns-then-runs-i c = sym (run_of-at c.args.u c.first_above-i.result c.args.runs.now (record { start = 0; len = 0 }) c.first_above-i.ensures.below c.if-i-runs.true c.if-runs-i.true (c.first_above-i.ensures.above c.if-i-runs.true))

pub returns-else-i-runs : goal.returns-else-i-runs
returns-else-i-runs c = sym (run_of-gap 0 c.args.u c.first_above-i.result c.args.runs.now (record { start = 0; len = 0 }) c.requires c.first_above-i.ensures.below
    (λ lt. elim c.else-i-runs.branch [
      | else-i-runs-via-then-i-runs+else-runs-i w ↦ omega (arith, w.if-runs-i.false)
      | else-i-runs-via-else-i-runs w ↦ absurd (omega (arith, w.if-i-runs.false, lt))
    ]))
