use Rattle.std.proofs.Common.{◌<◌, [], length, subst, sym, arith}
use Rattle.zr_store.specs.Store.{AreStored, Swaps}
use Rattle.zr_store.specs.Causes.{Costs}
use Rattle.zr_tree.specs.Trees.{own}
use Rattle.zr_change.specs.declared.plans.Planned.{Planned}
use Rattle.zr_change.proofs.Freeing.{freed_stored, freed_more, freed_costs, freed_all}
use Rattle.zr_change.proofs.stores.free_olds.Goals as goal

pub loop-p-preserved : goal.loop-p-preserved
loop-p-preserved g c = record {
  follows = λ start so_far. c.free_one.ensures.follows start (c.loop-p.invariant.follows start so_far);
  costs = freed_costs (λ (p : Planned). own p.old) c.args.plan.now c.loop-p.p-index c.p-item.result c.loop-p-test.true c.loop-p.invariant.costs (subst (λ (p : Planned). Costs 0 (length (own p.old)) (g.B.Blocks.account c.loop-p.store) (g.B.Blocks.account c.free_one.new.store)) c.p-item.is c.free_one.ensures.costs);
  so_far = λ s holds held.
      let plan = c.args.plan.now in
      let i = c.loop-p.p-index in
      let f = λ (p : Planned). own p.old in
      let d = c.p-item.result in
      let lt : i < length plan = omega arith in
      let before = c.loop-p.invariant.so_far s holds held in
      let n = before.stored in
      let stored = subst (λ (p : Planned). AreStored (own p.old) n) (sym c.p-item.is) (freed_stored f plan i d s n lt before.is held) in
      let after = c.in_ok-free_one.ensures.swaps n before.held stored in
      record { stored = after.stored; held = after.held; is = freed_more f plan i d s n after.stored lt before.is (subst (λ (p : Planned). Swaps n after.stored (own p.old) []) c.p-item.is after.is) };
}

pub returns-in_err-free_one-clause-costs : goal.returns-in_err-free_one-clause-costs
returns-in_err-free_one-clause-costs g c = freed_all (λ (p : Planned). own p.old) c.args.plan.now c.loop-p.p-index c.p-item.result c.loop-p-test.true c.loop-p.invariant.costs (subst (λ (p : Planned). Costs 0 (length (own p.old)) (g.B.Blocks.account c.loop-p.store) (g.B.Blocks.account c.free_one.new.store)) c.p-item.is c.free_one.ensures.costs)
