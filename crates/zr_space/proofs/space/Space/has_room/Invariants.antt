use Rattle.std.proofs.Common.{ℕ, ◌≤◌, ◌<◌}
use Rattle.zr_space.specs.Freeing.{HasRoom}
use Rattle.zr_space.proofs.space.Space.has_room.Given as goal

abbrev pub invariant-loop-i : goal.invariant-loop-i
invariant-loop-i l = (j : ℕ) → l.initial.i ≤ j → j < l.i → HasRoom l.self l.visits l.dev j
