use Rattle.zr_base.specs.Words.{words}
use Rattle.zr_beside.proofs.Beside.{comes}
use Rattle.zr_beside.proofs.laws.a_stream_comes.Goals as goal

pub returns : goal.returns
returns c = λ s n front back stream ns h once stores. comes s n front back stream.tree (words ns) h once stores.came stores.stands.bytes
