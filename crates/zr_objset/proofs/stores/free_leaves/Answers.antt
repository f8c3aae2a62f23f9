use Rattle.std.proofs.Common.{◌<◌, length, arith}
use Rattle.zr_store.proofs.Causes.{costs_then}
use Rattle.zr_objset.proofs.Freeing.{freed_stored, freed_more}
use Rattle.zr_objset.proofs.stores.free_leaves.Goals as goal

pub loop-leaf-preserved : goal.loop-leaf-preserved
loop-leaf-preserved g c = record {
  follows = λ start so_far. c.free_leaf.ensures.follows start (c.loop-leaf.invariant.follows start so_far);
  costs = costs_then c.loop-leaf.invariant.costs c.in_ok-free_leaf.ensures.costs;
  so_far = λ s holds held.
      let leaves = c.args.leaves.now in
      let i = c.loop-leaf.leaf-index in
      let lt : i < length leaves = omega arith in
      let before = c.loop-leaf.invariant.so_far s holds held in
      let n = before.stored in
      let after = c.in_ok-free_leaf.ensures.swaps n before.held (freed_stored leaves i _ s n lt before.is held) in
      record { stored = after.stored; held = after.held; is = freed_more leaves i _ s n after.stored lt before.is after.is };
}
