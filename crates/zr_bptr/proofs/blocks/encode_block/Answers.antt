use Rattle.zr_bptr.proofs.Pieces.{full_size}
use Rattle.zr_bptr.proofs.blocks.encode_block.Goals as goal

pub returns-clause-size : goal.returns-clause-size
returns-clause-size c = full_size c.args.pointers.now _ _ c.loop-p.invariant c.loop-p-test.false c.requires.count c.requires.lawful
