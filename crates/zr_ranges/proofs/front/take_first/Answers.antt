use Rattle.zr_ranges.proofs.Parts.{removes_first, removes_front}
use Rattle.zr_ranges.proofs.front.take_first.Goals as goal

pub returns-then-run-n-clause-removed : goal.returns-then-run-n-clause-removed
returns-then-run-n-clause-removed c =
    removes_first c.args.from _ _ c.requires.maximal c.requires.index (rw c.live.ensures at c.run_at-run.ensures.value) c.run_at-run.ensures.not_empty

pub returns-clause-removed : goal.returns-clause-removed
returns-clause-removed c =
    removes_front c.args.from c.args.n _ _ c.requires.maximal c.requires.index (rw c.live.ensures at c.run_at-run.ensures.value) c.if-run-n.false
