use Rattle.zr_owed.proofs.RoomLaws.{commit_keeps}
use Rattle.zr_owed.proofs.laws.commits_keep_room.Goals as goal

pub returns : goal.returns
returns c = commit_keeps
