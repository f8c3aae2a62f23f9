use Rattle.zr_root.proofs.Beside.{words_beside}
use Rattle.zr_root.proofs.laws.streams_stand_alone.Goals as goal

pub returns : goal.returns
returns c = words_beside
