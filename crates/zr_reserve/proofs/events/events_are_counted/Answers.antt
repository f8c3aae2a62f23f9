use Rattle.zr_reserve.proofs.Counted.{counted, counted_there}
use Rattle.zr_reserve.proofs.events.events_are_counted.Goals as goal

pub returns-clause-words : goal.returns-clause-words
returns-clause-words c = counted

pub returns-clause-there : goal.returns-clause-there
returns-clause-there c = counted_there
