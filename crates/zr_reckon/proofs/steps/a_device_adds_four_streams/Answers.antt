use Rattle.zr_reckon.proofs.Added.{added_sizes, added_room}
use Rattle.zr_reckon.proofs.steps.a_device_adds_four_streams.Goals as goal

pub returns-clause-sizes : goal.returns-clause-sizes
returns-clause-sizes c = λ old new units txg blocks objects s l. added_sizes old new units txg s l blocks objects

pub returns-clause-room : goal.returns-clause-room
returns-clause-room c = added_room
