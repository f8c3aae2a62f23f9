use Rattle.zr_moves.proofs.Unchanged.{same_record}
use Rattle.zr_moves.proofs.streams.an_unchanged_set_keeps_its_record.Goals as goal

pub returns : goal.returns
returns c = same_record
