use Rattle.std.proofs.Common.{arith}
use Rattle.zr_create.proofs.Finding.{apart}
use Rattle.zr_create.proofs.names.slots_named.Goals as goal

pub returns-clause-apart : goal.returns-clause-apart
returns-clause-apart c = λ differ.
    let count = c.loop-i.invariant.count in
    let past = c.loop-i-test.false in
    let end = c.loop-i.auto.i-end in
    apart c.args.paths.now c.args.devs.now c.loop-i.slots.items (record { count = omega (arith, count, past, end); each = λ k lt. c.loop-i.invariant.each k (omega (arith, lt, past)) }) differ
