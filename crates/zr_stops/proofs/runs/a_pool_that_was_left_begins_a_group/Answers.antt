use Rattle.zr_stops.proofs.Behind.{left_behind}
use Rattle.zr_stops.proofs.runs.a_pool_that_was_left_begins_a_group.Goals as goal

pub returns : goal.returns
returns c = λ sizes objects pool now ready sized shows leaves holds reads. left_behind sizes objects pool now ready sized shows leaves holds reads
