use Rattle.zr_bptr.proofs.Leaves.{empty_record}
use Rattle.zr_bptr.proofs.records.encode_record.Goals as goal

pub returns-in-None : goal.returns-in-None
returns-in-None c = empty_record _ c.in-None.is
