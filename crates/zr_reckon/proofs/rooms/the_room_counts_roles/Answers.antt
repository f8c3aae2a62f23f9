use Rattle.zr_reckon.proofs.RoomUnits.{room_is}
use Rattle.zr_reckon.proofs.rooms.the_room_counts_roles.Goals as goal

pub returns : goal.returns
returns c = λ s blocks objects l. room_is s l blocks objects
