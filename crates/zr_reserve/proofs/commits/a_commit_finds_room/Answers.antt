use Rattle.zr_reserve.proofs.Kept.{finds_room, finds_room_later, room_left_later}
use Rattle.zr_reserve.proofs.commits.a_commit_finds_room.Goals as goal

pub returns-clause-now : goal.returns-clause-now
returns-clause-now c = finds_room

pub returns-clause-later : goal.returns-clause-later
returns-clause-later c = finds_room_later

pub returns-clause-left : goal.returns-clause-left
returns-clause-left c = room_left_later
