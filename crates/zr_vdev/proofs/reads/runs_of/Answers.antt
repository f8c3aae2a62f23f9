use Rattle.std.proofs.Common.{◌≡◌, false, subst}
use Rattle.zr_base.specs.declared.space.Dva.{Dva}
use Rattle.zr_rules.specs.Equation.{devices_in}
use Rattle.zr_rules.specs.Resolve.{is_resolved}
use Rattle.zr_vdev.proofs.Reading.{leads_nowhere}
use Rattle.zr_vdev.proofs.reads.runs_of.Goals as goal

pub returns-in-Err-NoEntry-clause-nowhere : goal.returns-in-Err-NoEntry-clause-nowhere
returns-in-Err-NoEntry-clause-nowhere c = λ at expected is.
    let same : c.args.b.now.at ≡ at = cc in
    let nowhere = rw c.in-Err-NoEntry.field-0-is at c.in-Err-NoEntry.ensures.nowhere in
    subst (λ (a : Dva). is_resolved (devices_in c.args.space.now) a ≡ false) same (leads_nowhere (devices_in c.args.space.now) c.args.b.now.at c.in-Err-NoEntry.field-0-0 c.in-Err-NoEntry.field-0-1 nowhere)
