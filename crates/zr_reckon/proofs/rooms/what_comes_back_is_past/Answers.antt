use Rattle.zr_reckon.proofs.RoomUnits.{turning_most}
use Rattle.zr_reckon.proofs.rooms.what_comes_back_is_past.Goals as goal

pub returns : goal.returns
returns c = turning_most
