use Rattle.std.proofs.Common.{◌≡◌, ◌-◌, ◌++◌, ◌∷◌, [], sym, subst, arith}
use Rattle.std.specs.Prelude.{All}
use Rattle.std.proofs.lemmas.List.Elements.{All-push}
use Rattle.zr_store.proofs.Causes.{costs_then}
use Rattle.zr_tree.specs.Blocks.{FitsAt}
use Rattle.zr_change.specs.declared.plans.Planned.{Planned}
use Rattle.zr_change.specs.Plans.{IsNew, IsPlannedFor}
use Rattle.zr_change.proofs.Editing.{indices_more, count_of}
use Rattle.zr_change.proofs.plans.plan.Goals as goal

pub loop-index-preserved : goal.loop-index-preserved
loop-index-preserved g c =
    let r = c.args.rec.now in
    let index = c.loop-index.index in
    let first = c.blocks_touched-first.result.0 in
    let inv = c.loop-index.invariant in
    let plan = c.loop-index.plan.items in
    let p = c.in_ok-planned.planned in
    let e = c.in_ok-planned.ensures in
    let items : c.push.new.self.items ≡ plan ++ p ∷ [] = c.in_ok-push.ensures.items in
    let OldFits : Planned → Type 0 = λ q. FitsAt 0 q.old in
    let NewFits : Planned → Type 0 = λ q. IsNew r.units q.new in
    record {
      follows = λ start so_far. c.plan_one.ensures.follows start (inv.follows start so_far);
      costs = costs_then inv.costs c.plan_one.ensures.costs;
      same = λ s holds. c.plan_one.ensures.same s (inv.same s holds);
      indices = indices_more plan c.push.new.self.items p first index c.loop-index.auto.index items e.index inv.indices;
      olds = subst (All OldFits) (sym items) (All-push OldFits plan p inv.olds e.old);
      new = subst (All NewFits) (sym items) (All-push NewFits plan p inv.new e.new);
      plans = λ s holds.
          let Is : Planned → Type 0 = IsPlannedFor s c.args.group.now c.args.id r c.args.edit.now in
          subst (All Is) (sym items) (All-push Is plan p (inv.plans s holds) (e.plans s (inv.same s holds)));
    }

pub returns-clause-short : goal.returns-clause-short
returns-clause-short g c =
    let first = c.blocks_touched-first.result.0 in
    let count = count_of c.loop-index.plan.items first (c.loop-index.index - first) c.loop-index.invariant.indices in
    omega (arith, count, c.loop-index.auto.index-end, c.blocks_touched-first.ensures.low, c.blocks_touched-first.ensures.order)
