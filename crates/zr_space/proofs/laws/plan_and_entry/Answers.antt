use Rattle.zr_space.proofs.Planned.{copies}
use Rattle.zr_space.proofs.laws.plan_and_entry.Goals as goal

pub returns : goal.returns
returns c = copies
