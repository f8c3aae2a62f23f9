use Rattle.std.proofs.Common.{◌≡◌, ◌-◌, ◌^◌, take}
use Rattle.zr_rules.specs.Choices.{shortest_fit}
use Rattle.zr_choose.proofs.picks.shortest_len.Given as goal

abbrev pub invariant-loop-run : goal.invariant-loop-run
invariant-loop-run l = l.shortest ≡ shortest_fit (2 ^ 64 - 1) l.want (take l.run-index l.runs)
