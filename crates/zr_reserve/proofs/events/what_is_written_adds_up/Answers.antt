use Rattle.zr_reserve.proofs.Counted.{nothing_written, then_written}
use Rattle.zr_reserve.proofs.events.what_is_written_adds_up.Goals as goal

pub returns-clause-none : goal.returns-clause-none
returns-clause-none c = nothing_written

pub returns-clause-more : goal.returns-clause-more
returns-clause-more c = then_written
