use Rattle.std.proofs.Common.{[]}
use Rattle.zr_meta.proofs.Maps.{no_entry}
use Rattle.zr_meta.proofs.map.each_of.Goals as goal

pub returns-in_default : goal.returns-in_default
returns-in_default c = no_entry c.args.pieces.now c.loop-piece.piece-index [] c.loop-piece-test.true c.in_default.ensures
