use Rattle.zr_root.proofs.Puts.{block_of}
use Rattle.zr_root.proofs.levels.put_group.Goals as goal

pub returns-clause-puts : goal.returns-clause-puts
returns-clause-puts g c = λ s held.
    block_of (g.B.Blocks.holds c.put.new.self) s c.args.below c.in_ok-bytes.bytes.items c.as_slice.result.now c.args.pointers.now c.in_ok-b.b c.as_slice.ensures.value c.in_ok-bytes.ensures.block c.in_ok-b.ensures.pointer c.in_ok-bytes.ensures.pointers (c.in_ok-b.ensures.ok s held)
