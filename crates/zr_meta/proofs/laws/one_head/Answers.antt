use Rattle.zr_meta.proofs.Backs.{one_head}
use Rattle.zr_meta.proofs.laws.one_head.Goals as goal

pub returns : goal.returns
returns c = one_head
