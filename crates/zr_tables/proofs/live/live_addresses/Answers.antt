use Rattle.std.proofs.Common.{◌∙◌, sym, subst}
use Rattle.zr_lookup.specs.Objects.{HasLeaves}
use Rattle.zr_store.proofs.Causes.{costs_then}
use Rattle.zr_tree.specs.Trees.{tree_at}
use Rattle.zr_tables.proofs.Walking.{first_of}
use Rattle.zr_tables.proofs.live.live_addresses.Goals as goal

pub loop-index-init : goal.loop-index-init
loop-index-init g c =
    let h = c.in_ok-own.ensures in
    let next = c.in_ok-leaves.ensures in
    record {
      follows = λ start so_far. next.follows start (h.follows start so_far);
      costs = costs_then h.costs next.costs;
      same = λ s holds. next.same s (h.same s holds);
      so_far = λ s holds. first_of s c.args.dir.now c.args.group.now c.as_slice.result.now c.new-out.result.items c.put_addresses.new.out.items
          (c.as_slice.ensures.value ∙ h.reach s holds) c.new-out.ensures.items c.in_ok-put_addresses.ensures;
    }

pub loop-index-preserved : goal.loop-index-preserved
loop-index-preserved g c =
    let inv = c.loop-index.invariant in
    let h = c.in_ok-put_leaf.ensures in
    record {
      follows = λ start so_far. h.follows start (inv.follows start so_far);
      costs = costs_then inv.costs h.costs;
      same = λ s holds. h.same s (inv.same s holds);
      so_far = λ s holds.
          let has = c.in_ok-leaves.ensures.leaves s (c.in_ok-own.ensures.same s holds) in
          let here = subst (HasLeaves (tree_at s c.args.dir.now)) (sym c.as_slice-in-loop-index.ensures.value) has in
          h.met s c.args.dir.now (inv.same s holds) here (inv.so_far s holds);
    }
