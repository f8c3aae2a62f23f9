use Rattle.zr_root.proofs.Beside.{one_value}
use Rattle.zr_root.proofs.laws.streams_have_one_value.Goals as goal

pub returns : goal.returns
returns c = one_value
