use Rattle.zr_condense.proofs.Leading.{leads}
use Rattle.zr_condense.proofs.laws.leads_as_before.Goals as goal

pub returns : goal.returns
returns c = leads
