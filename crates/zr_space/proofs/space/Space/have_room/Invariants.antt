use Rattle.std.proofs.Common.{All, take}
use Rattle.zr_space.specs.Freeing.{RoomAt}
use Rattle.zr_space.proofs.space.Space.have_room.Given as goal

abbrev pub invariant-loop-v : goal.invariant-loop-v
invariant-loop-v l = All (RoomAt l.self l.visits) (take l.v-index l.visits)
