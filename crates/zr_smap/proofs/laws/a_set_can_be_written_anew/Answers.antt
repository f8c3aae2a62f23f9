use Rattle.zr_smap.proofs.Anew.{can_be_anew}
use Rattle.zr_smap.proofs.laws.a_set_can_be_written_anew.Goals as goal

pub returns : goal.returns
returns c = can_be_anew
