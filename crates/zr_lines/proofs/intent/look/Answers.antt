use Rattle.std.proofs.Common.{◌≡◌, subst, sym, ◌∙◌}
use Rattle.std.proofs.lemmas.Result.{err_from_is_err_and}
use Rattle.zr_base.specs.declared.refusal.Refusal.TheVariants.{Damaged}
use Rattle.zr_change.specs.Edits.{IsPart}
use Rattle.zr_lookup.specs.Errors.{TellsOfObject}
use Rattle.zr_lookup.specs.Objects.{pointer_now}
use Rattle.zr_sync.specs.declared.fault.Fault.TheVariants.{No}
use Rattle.zr_lines.proofs.Damaged.{of_object}
use Rattle.zr_lines.proofs.intent.look.Goals as goal

pub returns-in_err-plan-clause-damaged : goal.returns-in_err-plan-clause-damaged
returns-in_err-plan-clause-damaged g c = λ s held at expected found is.
    let r = c.in-Some.rec in
    let e = c.args.edit.now in
    let res = c.from_residual-in_err-plan in
    let p = err_from_is_err_and res.result res.ensures.1 in
    let told : p.0 ≡ No (Damaged at expected found) = let e = sym p.1 ∙ is in cc in
    of_object s c.args.dir.now c.args.group.now c.args.id (λ o. IsPart o.units e) at expected found r c.in_err-plan.field-0.0 p.0 (sym (c.in_ok-rec.ensures.record s held) ∙ c.in-Some.is)
    (subst (λ result. TellsOfObject s (pointer_now s c.args.group.now c.args.id r) r (IsPart r.units e) result) c.in_err-plan.was (c.plan.ensures.errors s (c.record_of.ensures.same s held))) p.2 told
