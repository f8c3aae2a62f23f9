use Rattle.std.proofs.Common.{subst}
use Rattle.std.proofs.lemmas.Result.{err_from_is_err_and}
use Rattle.zr_lines.specs.Sought.{IsRecordIn}
use Rattle.zr_lines.proofs.record.need.Goals as goal

pub returns-in-Some-clause-object : goal.returns-in-Some-clause-object
returns-in-Some-clause-object g c = λ objects h. subst (λ x. IsRecordIn objects c.args.id x) c.in-Some.is (c.in_ok-rec.ensures.object objects h)

pub returns-in_err-rec-clause-damaged : goal.returns-in_err-rec-clause-damaged
returns-in_err-rec-clause-damaged g c = λ s h at expected found is.
    let e = c.in_err-rec in
    let was = err_from_is_err_and c.from_residual.result c.from_residual.ensures.1 in
    e.ensures.damaged s h at expected found cc
