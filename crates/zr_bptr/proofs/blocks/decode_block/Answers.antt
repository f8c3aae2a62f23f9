use Rattle.std.proofs.Common.{arith, ◌≡◌, ◌∙◌, sym, ap, sum_by}
use Rattle.zr_bptr.specs.Spelling.{fill_of}
use Rattle.zr_bptr.proofs.Pieces.{block_long, chunked, no_block, other_fill, a_block, positive}
use Rattle.zr_bptr.proofs.blocks.decode_block.Goals as goal

pub returns-then-bytes-ne-BLOCK_BYTES : goal.returns-then-bytes-ne-BLOCK_BYTES
returns-then-bytes-ne-BLOCK_BYTES c = λ ps h. c.if-bytes-ne-BLOCK_BYTES.true (block_long _ _ _ _ h)

pub returns-in_default : goal.returns-in_default
returns-in_default c =
    no_block c.args.bytes.now _ _ _ (chunked _ _ c.if-bytes-ne-BLOCK_BYTES.false c.as_chunks.ensures.front) (rw c.in_default.is at c.in_ok-pointers.ensures)

pub returns-then-leaves-eq0 : goal.returns-then-leaves-eq0
returns-then-leaves-eq0 c =
    other_fill c.args.bytes.now _ _ _ c.in-Some.pointers.items (chunked _ _ c.if-bytes-ne-BLOCK_BYTES.false c.as_chunks.ensures.front)
    (rw c.in-Some.is at c.in_ok-pointers.ensures)
    (λ some leaves. let e = c.leaves_of-leaves.ensures ∙ ap (sum_by fill_of) c.as_slice.ensures.value in omega (arith, e, c.if-leaves-eq0.true))

pub returns-then-leaves-fill : goal.returns-then-leaves-fill
returns-then-leaves-fill c =
    other_fill c.args.bytes.now _ _ _ c.in-Some.pointers.items (chunked _ _ c.if-bytes-ne-BLOCK_BYTES.false c.as_chunks.ensures.front)
    (rw c.in-Some.is at c.in_ok-pointers.ensures)
    (λ some leaves. c.if-leaves-fill.true (c.leaves_of-leaves.ensures ∙ (ap (sum_by fill_of) c.as_slice.ensures.value ∙ leaves)))

pub returns : goal.returns
returns c =
    let e : c.leaves_of-leaves.result ≡ sum_by fill_of c.in-Some.pointers.items = c.leaves_of-leaves.ensures ∙ ap (sum_by fill_of) c.as_slice.ensures.value in
    a_block c.args.bytes.now _ _ _ c.in-Some.pointers.items c.if-bytes-ne-BLOCK_BYTES.false (chunked _ _ c.if-bytes-ne-BLOCK_BYTES.false c.as_chunks.ensures.front)
    (rw c.in-Some.is at c.in_ok-pointers.ensures) (positive _ _ e c.if-leaves-eq0.false) (sym e ∙ c.if-leaves-fill.false)
