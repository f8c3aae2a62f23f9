use Rattle.zr_view.proofs.Writing.{reads_back}
use Rattle.zr_view.proofs.runs.write_run.Goals as goal

pub returns-clause-there : goal.returns-clause-there
returns-clause-there g c = λ told. reads_back c.args.slots.now c.args.run.now _ _ c.args.bytes.now c.write.result _ _ c.slot_of-slot.ensures c.requires.size c.place_of_unit.ensures (c.write.ensures.world told)
