use Rattle.zr_beside.proofs.Beside.{reordered}
use Rattle.zr_beside.proofs.laws.another_order.Goals as goal

pub returns : goal.returns
returns c = λ s front a b back h. reordered s front a b back h
