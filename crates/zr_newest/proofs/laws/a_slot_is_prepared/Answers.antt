use Rattle.zr_newest.proofs.Prepared.{joins_next, prepared_from}
use Rattle.zr_newest.proofs.laws.a_slot_is_prepared.Goals as goal

pub returns-clause-prepared : goal.returns-clause-prepared
returns-clause-prepared c = prepared_from

pub returns-clause-joins : goal.returns-clause-joins
returns-clause-joins c = joins_next
