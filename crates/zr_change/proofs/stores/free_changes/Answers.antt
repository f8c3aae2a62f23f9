use Rattle.std.proofs.Common.{◌<◌, ℕ, length, arith}
use Rattle.zr_bptr.specs.declared.Ptr.{Ptr}
use Rattle.zr_bptr.specs.declared.Ptr.TheVariants.{Hole}
use Rattle.zr_tree.specs.Trees.{own}
use Rattle.zr_change.proofs.Freeing.{freed_stored, freed_more, freed_costs, freed_all}
use Rattle.zr_change.proofs.stores.free_changes.Goals as goal

pub loop-change-preserved : goal.loop-change-preserved
loop-change-preserved g c = record {
  follows = λ start so_far. c.free_one.ensures.follows start (c.loop-change.invariant.follows start so_far);
  costs = freed_costs (λ (change : ℕ × Ptr). own change.1) c.args.changes.now c.loop-change.change-index (0, Hole) c.loop-change-test.true c.loop-change.invariant.costs c.free_one.ensures.costs;
  so_far = λ s holds held.
      let changes = c.args.changes.now in
      let i = c.loop-change.change-index in
      let f = λ (change : ℕ × Ptr). own change.1 in
      let lt : i < length changes = omega arith in
      let before = c.loop-change.invariant.so_far s holds held in
      let n = before.stored in
      let d : ℕ × Ptr = (0, Hole) in
      let after = c.in_ok-free_one.ensures.swaps n before.held (freed_stored f changes i d s n lt before.is held) in
      record { stored = after.stored; held = after.held; is = freed_more f changes i d s n after.stored lt before.is after.is };
}

pub returns-in_err-free_one-clause-costs : goal.returns-in_err-free_one-clause-costs
returns-in_err-free_one-clause-costs g c = freed_all (λ (change : ℕ × Ptr). own change.1) c.args.changes.now c.loop-change.change-index (0, Hole) c.loop-change-test.true c.loop-change.invariant.costs c.free_one.ensures.costs
