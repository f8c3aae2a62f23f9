use Rattle.zr_reserve.proofs.Stepped.{discard_covered, condense_covered}
use Rattle.zr_reserve.proofs.steps.a_discard_and_a_condensing_keep_the_room.Goals as goal

pub returns-clause-discard : goal.returns-clause-discard
returns-clause-discard c = discard_covered

pub returns-clause-condense : goal.returns-clause-condense
returns-clause-condense c = condense_covered
