use Rattle.std.proofs.Common.{◌∙◌, ◌≡◌, ◌+◌, ◌*◌, ◌<◌, ◌++◌, ◌∷◌, [], ℕ, List, length, take, sym, ap, subst, arith}
use Rattle.std.specs.Prelude.{All}
use Rattle.std.proofs.lemmas.List.Elements.{All-push}
use Rattle.std.proofs.lemmas.Result.{err_from_is_err_and}
use Rattle.zr_bptr.specs.declared.Ptr.{Ptr}
use Rattle.zr_store.specs.Causes.{Spends}
use Rattle.zr_tree.specs.Blocks.{FitsAt}
use Rattle.zr_change.specs.declared.plans.Planned.{Planned}
use Rattle.zr_change.specs.Plans.{leaves_of, put_of, IsChangeFor, IsPointerFor, AreChangesFor, IsLacking, PutsPlan, PutsBlock}
use Rattle.zr_change.proofs.Putting.{err_same, lacking_then, spends_more, spends_all, zip_more, put_more, puts_most, leaves_more}
use Rattle.zr_change.proofs.stores.put_each.Goals as goal

pub returns-in_err-new-clause-costs : goal.returns-in_err-new-clause-costs
returns-in_err-new-clause-costs g c =
    let units = c.args.units in
    let one = subst (λ (p : Planned). Spends (units * put_of p.new) (put_of p.new) 0 (g.B.Blocks.account c.loop-p.store) (g.B.Blocks.account c.put_new.new.store)) c.p-item.is c.put_new.ensures.costs in
    spends_all units c.args.plan.now c.loop-p.p-index c.p-item.result c.loop-p-test.true c.loop-p.invariant.costs one

pub returns-in_err-new-clause-no_run : goal.returns-in_err-new-clause-no_run
returns-in_err-new-clause-no_run g c = λ needed longest is.
    let units = c.args.units in
    let x = c.from_residual in
    let e = c.in_err-new in
    let here = e.ensures.no_run needed longest (err_same x.result e.field-0.0 (err_from_is_err_and x.result x.ensures.1) is) in
    let one = subst (λ (p : Planned). IsLacking units (put_of p.new) (g.B.Blocks.account c.loop-p.store) needed longest) c.p-item.is here in
    lacking_then units c.args.plan.now c.loop-p.p-index c.p-item.result (g.B.Blocks.account c.args.store.now) (g.B.Blocks.account c.loop-p.store) needed longest c.loop-p-test.true c.loop-p.invariant.costs one

pub loop-p-preserved : goal.loop-p-preserved
loop-p-preserved g c =
    let units = c.args.units in
    let plan = c.args.plan.now in
    let i = c.loop-p.p-index in
    let d = c.p-item.result in
    let lt : i < length plan = omega arith in
    let inv = c.loop-p.invariant in
    let cs = c.loop-p.changes.items in
    let x : ℕ × Ptr = (d.index, c.in_ok-new.new) in
    let items : c.push.new.self.items ≡ cs ++ x ∷ [] = c.in-Ok.ensures.items in
    let before = g.B.Blocks.account c.loop-p.store in
    let after = g.B.Blocks.account c.put_new.new.store in
    record {
      follows = λ start so_far. c.put_new.ensures.follows start (inv.follows start so_far);
      costs = spends_more units plan i d lt inv.costs (subst (λ (p : Planned). Spends (units * put_of p.new) (put_of p.new) 0 before after) c.p-item.is c.put_new.ensures.costs);
      count = omega (arith, c.in-Ok.ensures.len, inv.count);
      stored = ap (λ (xs : List (ℕ × Ptr)). length (leaves_of xs)) items ∙ leaves_more plan cs i d x lt inv.stored (c.in_ok-new.ensures.count ∙ ap (λ (p : Planned). put_of p.new) c.p-item.is);
      room = omega (arith, c.in-Ok.ensures.capacity, inv.room);
      leaves = subst (All (λ (leaf : ℕ × Ptr). FitsAt 0 leaf.1)) (sym items) (All-push (λ (leaf : ℕ × Ptr). FitsAt 0 leaf.1) cs x inv.leaves c.in_ok-new.ensures.fits);
      changes =
          subst (λ (xs : List (ℕ × Ptr)). AreChangesFor (take (i + 1) plan) xs) (sym items)
          (zip_more IsChangeFor plan cs i d x lt inv.changes
          (record { index = ap (λ (p : Planned). p.index) c.p-item.is; pointer = subst (λ (p : Planned). IsPointerFor p.new c.in_ok-new.new) c.p-item.is c.in_ok-new.ensures.pointer }));
      puts = λ s held.
          let now = inv.puts s held in
          let then = c.in_ok-new.ensures.ok now.stored now.held in
          let one = subst (λ (p : Planned). PutsBlock units p.new now.stored then.stored c.in_ok-new.new) c.p-item.is then.is in
          record {
            stored = then.stored;
            held = then.held;
            is = subst (λ (xs : List (ℕ × Ptr)). PutsPlan units (take (i + 1) plan) xs s then.stored) (sym items) (put_more units plan cs i d x s now.stored then.stored lt now.is one);
          };
    }

pub returns-in_err-new-clause-count : goal.returns-in_err-new-clause-count
returns-in_err-new-clause-count g c = let most = puts_most c.args.plan.now c.loop-p.p-index in omega (arith, most, c.loop-p.invariant.stored)
