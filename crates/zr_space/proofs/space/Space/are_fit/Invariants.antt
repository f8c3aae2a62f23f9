use Rattle.std.proofs.Common.{All, take}
use Rattle.zr_space.specs.Freeing.{IsFit}
use Rattle.zr_space.proofs.space.Space.are_fit.Given as goal

abbrev pub invariant-loop-v : goal.invariant-loop-v
invariant-loop-v l = All (IsFit l.self) (take l.v-index l.visits)
