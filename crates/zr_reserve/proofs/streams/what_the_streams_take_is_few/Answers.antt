use Rattle.zr_reserve.proofs.Trees.{root_few}
use Rattle.zr_reserve.proofs.streams.what_the_streams_take_is_few.Goals as goal

pub returns : goal.returns
returns c = root_few
