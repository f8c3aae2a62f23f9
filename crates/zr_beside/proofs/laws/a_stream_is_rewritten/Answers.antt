use Rattle.zr_base.specs.Words.{words}
use Rattle.zr_beside.proofs.Beside.{replaced}
use Rattle.zr_beside.proofs.laws.a_stream_is_rewritten.Goals as goal
use Rattle.zr_beside.specs.Beside.{of_stream}

pub returns : goal.returns
returns c = λ s n front back was now ns ms h once rewrites. replaced s n front back (of_stream was ns) now.tree (words ms) h once rewrites.swaps rewrites.stands.bytes
