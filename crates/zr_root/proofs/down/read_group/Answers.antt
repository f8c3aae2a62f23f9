use Rattle.zr_root.proofs.Reading.{group_kids, group_whole}
use Rattle.zr_root.proofs.down.read_group.Goals as goal

pub returns-clause-pointers : goal.returns-clause-pointers
returns-clause-pointers g c = λ s held.
    group_kids s c.args.below c.args.b.now.fill c.args.b.now c.in_ok-bytes.bytes.items c.as_slice.result.now c.in-Some.pointers.items c.as_slice.ensures.value (c.in_ok-bytes.ensures.bytes s held) (rw c.in-Some.is at c.in_ok-decode_block.ensures)

pub returns-clause-whole : goal.returns-clause-whole
returns-clause-whole g c = λ s held.
    group_whole s c.args.below c.args.b.now c.in_ok-bytes.bytes.items c.as_slice.result.now c.in-Some.pointers.items c.requires.fit.0.0 c.as_slice.ensures.value (c.in_ok-bytes.ensures.bytes s held) c.in_ok-bytes.ensures.sum (rw c.in-Some.is at c.in_ok-decode_block.ensures)
