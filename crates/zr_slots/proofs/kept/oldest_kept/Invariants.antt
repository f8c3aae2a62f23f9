use Rattle.zr_slots.proofs.Window.{IsWindowTo}
use Rattle.zr_slots.proofs.kept.oldest_kept.Given as goal

abbrev pub invariant-loop-behind : goal.invariant-loop-behind
invariant-loop-behind l = IsWindowTo l.seen l.current l.behind l.oldest
