use Rattle.zr_reserve.proofs.Commanded.{command_covered}
use Rattle.zr_reserve.proofs.commands.a_command_keeps_the_room.Goals as goal

pub returns : goal.returns
returns c = command_covered
