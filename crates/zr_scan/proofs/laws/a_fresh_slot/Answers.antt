use Rattle.zr_scan.proofs.Fresh.{fresh_slot}
use Rattle.zr_scan.proofs.laws.a_fresh_slot.Goals as goal

pub returns : goal.returns
returns c = record { shown = fresh_slot }
