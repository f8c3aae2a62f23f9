use Rattle.std.proofs.Common.{arith}
use Rattle.zr_removal.proofs.may.device_on.Goals as goal

pub returns-clause-none : goal.returns-clause-none
returns-clause-none c = λ d is.
    let end = c.loop-dev.invariant.end in
    let past = c.loop-dev-test.false in
    let lt = is.known in
    c.loop-dev.invariant.none d (omega (arith, lt, end, past)) is
