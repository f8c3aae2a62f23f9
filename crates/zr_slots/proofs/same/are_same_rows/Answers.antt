use Rattle.std.proofs.Common.{arith}
use Rattle.std.proofs.lemmas.List.{ext_get_or}
use Rattle.zr_label.specs.Blocks.{no_row}
use Rattle.zr_slots.proofs.same.are_same_rows.Goals as goal

pub returns-clause-same : goal.returns-clause-same
returns-clause-same c = λ t.
    let past = c.loop-i-test.false in
    ext_get_or no_row c.args.a.now c.args.b.now c.requires (λ i lt. c.loop-i.invariant i (omega (arith, past, lt)))
