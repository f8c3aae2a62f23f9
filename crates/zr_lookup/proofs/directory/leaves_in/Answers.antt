use Rattle.std.proofs.Common.{◌^◌}
use Rattle.zr_lookup.proofs.Keys.{rising}
use Rattle.zr_lookup.proofs.directory.leaves_in.Goals as goal

pub returns-clause-rising : goal.returns-clause-rising
returns-clause-rising g c = rising 0 (2 ^ 25) c.in_ok-walked.walked.leaves.items c.in_ok-walked.ensures.between

pub returns-clause-leaves : goal.returns-clause-leaves
returns-clause-leaves g c = λ s holds.
    let h = c.in_ok-walked.ensures in
    record { rising = rising 0 (2 ^ 25) c.in_ok-walked.walked.leaves.items h.between; each = h.leaves s holds }
