use Rattle.zr_root.proofs.Reading.{group_kids, group_whole}
use Rattle.zr_import.proofs.blocks.read_pointers.Goals as goal

pub returns-clause-means : goal.returns-clause-means
returns-clause-means g c = λ s held.
    group_kids s c.args.below c.args.b.now.fill c.args.b.now c.in_ok-bytes.bytes.items c.as_slice.result.now c.in-Some.pointers.items c.as_slice.ensures.value (c.in_ok-bytes.ensures.bytes s held) (rw c.in-Some.is at c.in_ok-decode_block.ensures)

pub returns-clause-whole : goal.returns-clause-whole
returns-clause-whole g c = λ s held level_is.
    group_whole s c.args.below c.args.b.now c.in_ok-bytes.bytes.items c.as_slice.result.now c.in-Some.pointers.items level_is c.as_slice.ensures.value (c.in_ok-bytes.ensures.bytes s held) c.in_ok-bytes.ensures.sum (rw c.in-Some.is at c.in_ok-decode_block.ensures)
