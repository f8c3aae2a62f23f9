use Rattle.std.proofs.Common.{ℕ, List, false, subst}
use Rattle.zr_base.specs.declared.space.Change.{Change}
use Rattle.zr_rules.specs.Logs.{IsInTurn, IsReplay}
use Rattle.zr_meta.proofs.Logs.{log_is, no_log, no_fit}
use Rattle.zr_meta.proofs.log.log_set.Goals as goal

pub returns-in_default-2 : goal.returns-in_default-2
returns-in_default-2 c =
    let s = rw c.in-Some.is at c.in_ok-changes.ensures.some in
    let none = rw c.in_default-2.is at c.in_ok-set.ensures.none in
    no_log c.args.version c.args.dev c.args.units c.args.words.now c.in-Some.changes.items s
    (subst (λ (cs : List Change). ((u : ℕ) → IsInTurn false cs u) → ⊥) c.as_slice.ensures.value none)

pub returns-then-not-branch : goal.returns-then-not-branch
returns-then-not-branch c =
    let s = rw c.in-Some.is at c.in_ok-changes.ensures.some in
    let r = rw c.in-Some-2.is at c.in_ok-set.ensures.some in
    no_fit c.args.version c.args.dev c.args.units c.args.words.now c.in-Some.changes.items c.in-Some-2.set.extents s
    (subst (λ (cs : List Change). IsReplay cs c.in-Some-2.set.extents) c.as_slice.ensures.value r)
    (λ f. let k = c.in_ok-is_fit.ensures.1 f in let is = c.if-not-branch.true in absurd cc)

pub returns : goal.returns
returns c =
    let s = rw c.in-Some.is at c.in_ok-changes.ensures.some in
    let r = rw c.in-Some-2.is at c.in_ok-set.ensures.some in
    log_is c.args.version c.args.dev c.args.units c.args.words.now c.in-Some.changes.items c.in-Some-2.set.extents s
    (subst (λ (cs : List Change). IsReplay cs c.in-Some-2.set.extents) c.as_slice.ensures.value r)
    (c.in_ok-is_fit.ensures.0 c.if-not-branch.false)
