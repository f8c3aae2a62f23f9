use Rattle.std.proofs.lemmas.Result.{err_from_is_err_and}
use Rattle.zr_lookup.specs.Objects.{pointer_now}
use Rattle.zr_change.specs.Edits.{IsPart}
use Rattle.zr_change.proofs.Editing.{object_of_tree, object_of_block, object_from}
use Rattle.zr_change.proofs.plans.plan_one.Goals as goal

pub returns-in_err-old-clause-errors : goal.returns-in_err-old-clause-errors
returns-in_err-old-clause-errors g c = λ s holds.
    let r = c.args.rec.now in
    let at = pointer_now s c.args.group.now c.args.id r in
    let e = c.in_err-old in
    let x = c.from_residual in
    object_from s at r (IsPart r.units c.args.edit.now) x.result e.field-0.0 (err_from_is_err_and x.result x.ensures.1) (object_of_tree s at r (IsPart r.units c.args.edit.now) _ (e.ensures.errors s holds))

pub returns-in_err-new-clause-errors : goal.returns-in_err-new-clause-errors
returns-in_err-new-clause-errors g c = λ s holds.
    let r = c.args.rec.now in
    let edit = c.args.edit.now in
    let at = pointer_now s c.args.group.now c.args.id r in
    let e = c.in_err-new in
    let x = c.from_residual-in_err-new in
    object_from s at r (IsPart r.units edit) x.result e.field-0.0 (err_from_is_err_and x.result x.ensures.1)
    (object_of_block s at r edit c.in_ok-old.old c.args.index _ (c.in_ok-old.ensures.pointer s holds) c.in_ok-old.ensures.fits c.requires.touched e.ensures.unread (e.ensures.errors s (c.in_ok-old.ensures.same s holds)))
