use Rattle.std.proofs.Common.{◌∙◌, sym}
use Rattle.zr_meta.proofs.Maps.{same_size}
use Rattle.zr_meta.proofs.map.mapping_of.Goals as goal

pub returns-then-len : goal.returns-then-len
returns-then-len c = λ m h.
    c.if-len.true
    (c.len.ensures
    ∙ (same_size c.args.entries.now c.args.counts.now m c.in-Some.entries c.in-Some-2.counts h (rw c.in-Some.is at c.in_ok-entries.ensures) (rw c.in-Some-2.is at c.in_ok-counts.ensures)
    ∙ sym c.len-2.ensures))
