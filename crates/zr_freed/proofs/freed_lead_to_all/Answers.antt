use Rattle.zr_freed.proofs.Whole.{freed_lead_to_all}
use Rattle.zr_freed.proofs.freed_lead_to_all.Goals as goal

pub returns : goal.returns
returns c = λ birth old new list single left frees. freed_lead_to_all birth old new list single left frees
