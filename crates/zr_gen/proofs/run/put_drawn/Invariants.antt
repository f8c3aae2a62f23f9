use Rattle.std.proofs.Common.{◌≡◌, ◌++◌, ◌+◌, ◌-◌}
use Rattle.zr_script.specs.Generated.{drawn_lines}
use Rattle.zr_gen.proofs.run.put_drawn.Given as goal

-- what was added, and what is still to come from this state of the draws, are the whole
abbrev pub invariant-loop-done : goal.invariant-loop-done
invariant-loop-done l = l.commands ++ drawn_lines l.devs l.count (l.count - l.done) (l.done + 1) l.draws ≡ l.fn.commands ++ drawn_lines l.devs l.count l.count 1 l.fn.number
