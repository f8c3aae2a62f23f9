use Rattle.std.proofs.Common.{arith}
use Rattle.zr_store_rows.proofs.heads.what_the_streams_record.Goals as goal

pub parts_of-requires-clause-units : goal.parts_of-requires-clause-units
parts_of-requires-clause-units c = λ d. (omega arith, tt)
