use Rattle.std.proofs.Common.{ap}
use Rattle.zr_sync.specs.declared.open.OpenPool.{OpenPool}
use Rattle.zr_lines.proofs.checkpoints.step.Goals as goal

pub returns-clause-root : goal.returns-clause-root
returns-clause-root c =
    let rest = c.discard_some.ensures.rest in
    record { last = ap (λ (p : OpenPool). p.last) rest; guid = ap (λ (p : OpenPool). p.guid) rest; table = ap (λ (p : OpenPool). p.table) rest }
