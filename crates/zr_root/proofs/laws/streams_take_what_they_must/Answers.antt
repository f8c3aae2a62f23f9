use Rattle.zr_root.proofs.Beside.{units_of_stream}
use Rattle.zr_root.proofs.laws.streams_take_what_they_must.Goals as goal

pub returns : goal.returns
returns c = units_of_stream
