use Rattle.zr_reserve.proofs.Kept.{nothing_added}
use Rattle.zr_reserve.proofs.Stepped.{finish_adds, cancel_adds}
use Rattle.zr_reserve.proofs.steps.a_removal_s_end_adds_nothing.Goals as goal

pub returns-clause-none : goal.returns-clause-none
returns-clause-none c = nothing_added

pub returns-clause-done : goal.returns-clause-done
returns-clause-done c = finish_adds

pub returns-clause-given_up : goal.returns-clause-given_up
returns-clause-given_up c = cancel_adds
