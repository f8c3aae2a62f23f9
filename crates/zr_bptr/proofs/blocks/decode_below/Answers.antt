use Rattle.zr_bptr.proofs.Pieces.{wrong_level}
use Rattle.zr_bptr.proofs.blocks.decode_below.Goals as goal

pub returns-then-b-below : goal.returns-then-b-below
returns-then-b-below c = wrong_level c.args.below c.args.bytes.now c.in-At.b (rw c.in-At.is at c.in_ok-p.ensures) c.if-b-below.true
