use Rattle.std.proofs.Common.{[]}
use Rattle.zr_bptr.proofs.Pieces.{no_each}
use Rattle.zr_bptr.proofs.blocks.decode_each.Goals as goal

pub returns-in_default : goal.returns-in_default
returns-in_default c = no_each c.args.below c.args.pieces.now c.loop-piece.piece-index [] c.loop-piece-test.true c.in_default.ensures
