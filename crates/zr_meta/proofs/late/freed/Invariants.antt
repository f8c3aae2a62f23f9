use Rattle.std.proofs.Common.{◌≡◌, map, take, true}
use Rattle.zr_meta.proofs.late.freed.Given as goal

abbrev pub invariant-loop-c : goal.invariant-loop-c
invariant-loop-c l = l.runs.items ≡ map (λ c. record { free = true; at = c.at }) (take l.c-index l.changes)
