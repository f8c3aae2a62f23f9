use Rattle.std.proofs.Common.{Ok, Err, ◌∙◌, subst}
use Rattle.zr_base.specs.declared.refusal.Refusal.{Refusal}
use Rattle.zr_create.specs.Refusals.{ChecksNew}
use Rattle.zr_create.proofs.Checking.{refused_same, checks_new}
use Rattle.zr_create.proofs.making.check_new.Goals as goal

pub returns-in_err-refuse_create-clause-refused : goal.returns-in_err-refuse_create-clause-refused
returns-in_err-refuse_create-clause-refused g c = λ r is.
    subst (λ (e : Refusal). ChecksNew (g.S.Shelf.sizes c.args.shelf.now) (g.S.Shelf.tells c.args.shelf.now) (g.S.Shelf.world c.args.shelf.now).now.seen c.args.version c.args.guid c.args.named.now (Err e))
    (refused_same c.in_err-refuse_create.field-0.0 r c.from_residual-in_err-refuse_create.result c.from_residual-in_err-refuse_create.ensures.1 is)
    (checks_new (g.S.Shelf.sizes c.args.shelf.now) c.as_slice.result.now (g.S.Shelf.tells c.args.shelf.now) (g.S.Shelf.world c.args.shelf.now).now.seen c.args.version c.args.guid c.args.named.now c.in_ok-seen.seen c.as_slice-2.result.now (Err c.in_err-refuse_create.field-0.0)
    (c.as_slice.ensures.value ∙ c.in_ok-sizes.ensures) c.as_slice-2.ensures c.in_ok-seen.ensures.count c.in_ok-seen.ensures.lawful c.in_ok-seen.ensures.shows c.in_err-refuse_create.ensures)

pub returns-clause-allowed : goal.returns-clause-allowed
returns-clause-allowed g c =
    checks_new (g.S.Shelf.sizes c.args.shelf.now) c.as_slice.result.now (g.S.Shelf.tells c.args.shelf.now) (g.S.Shelf.world c.args.shelf.now).now.seen c.args.version c.args.guid c.args.named.now c.in_ok-seen.seen c.as_slice-2.result.now (Ok tt)
    (c.as_slice.ensures.value ∙ c.in_ok-sizes.ensures) c.as_slice-2.ensures c.in_ok-seen.ensures.count c.in_ok-seen.ensures.lawful c.in_ok-seen.ensures.shows c.in_ok-refuse_create.ensures
