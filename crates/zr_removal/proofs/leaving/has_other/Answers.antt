use Rattle.std.proofs.Common.{arith}
use Rattle.zr_removal.proofs.leaving.has_other.Goals as goal

pub returns-clause-no : goal.returns-clause-no
returns-clause-no c = λ is e lt on.
    let end = c.loop-other.invariant.end in
    let past = c.loop-other-test.false in
    c.loop-other.invariant.none e (omega (arith, lt, end, past)) on
