use Rattle.std.proofs.Common.{◌∙◌, ap, subst, ℕ, sum_by, List}
use Rattle.zr_bptr.specs.Spelling.{SpellsEach, fill_of}
use Rattle.zr_bptr.proofs.Pieces.{chunked, no_block, one_each, each_of_block}
use Rattle.zr_bptr.proofs.blocks.leaves_in.Goals as goal

pub returns-in_default : goal.returns-in_default
returns-in_default c = λ fill ps h.
    absurd (no_block c.args.bytes.now _ _ fill (chunked _ _ c.requires c.as_chunks.ensures.front) (rw c.in_default.is at c.in_ok-pointers.ensures) ps h)

pub returns : goal.returns
returns c = λ fill ps h.
    let each = subst (λ (cs : List (List ℕ)). SpellsEach c.args.below cs c.in-Some.pointers.items) (chunked _ _ c.requires c.as_chunks.ensures.front) (rw c.in-Some.is at c.in_ok-pointers.ensures) in
    let same = one_each c.args.below _ c.in-Some.pointers.items ps each (each_of_block c.args.bytes.now c.args.below fill ps h) in
    c.leaves_of.ensures ∙ (ap (sum_by fill_of) (c.as_slice.ensures.value ∙ same) ∙ h.leaves)
