use Rattle.zr_reserve.proofs.Kept.{keeps_room, keeps_room_later}
use Rattle.zr_reserve.proofs.commits.a_commit_keeps_the_room.Goals as goal

pub returns-clause-now : goal.returns-clause-now
returns-clause-now c = keeps_room

pub returns-clause-later : goal.returns-clause-later
returns-clause-later c = keeps_room_later
