use Rattle.std.proofs.Common.{sym, ◌∙◌, List, subst}
use Rattle.std.specs.Prelude.{Contains}
use Rattle.zr_label.specs.declared.root.Uber.{Uber}
use Rattle.zr_slots.proofs.Shown.{some_root}
use Rattle.zr_slots.proofs.Lawful.{pool_is}
use Rattle.zr_slots.proofs.copies.pool_at.Goals as goal

pub returns-clause-some : goal.returns-clause-some
returns-clause-some c =
    let s = some_root c.roots_at.result.now c.if-is_empty.ensures in
    let has = subst (λ (us : List Uber). Contains us s.0) c.roots_at.ensures s.1 in
    (s.0, has, pool_is c.args.seen.now c.args.slot c.in-Some.label c.requires (sym c.label_at.ensures ∙ c.in-Some.is) s.0 has)

pub returns-clause-one : goal.returns-clause-one
returns-clause-one c = pool_is c.args.seen.now c.args.slot c.in-Some.label c.requires (sym c.label_at.ensures ∙ c.in-Some.is)
