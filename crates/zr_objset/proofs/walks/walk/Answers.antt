use Rattle.std.proofs.Common.{◌∙◌, ◌<◌, length, arith}
use Rattle.std.proofs.lemmas.Result.{err_from_is_err_and}
use Rattle.zr_store.proofs.Causes.{costs_then}
use Rattle.zr_tree.specs.Trees.{tree_blocks, tree_reach}
use Rattle.zr_objset.specs.Records.{leaf_reach, all_reach}
use Rattle.zr_objset.specs.Errors.{IsBadLeaf, IsFormed, HasSoundObjects}
use Rattle.zr_objset.proofs.Tells.{leaves_from, tells_tree}
use Rattle.zr_objset.proofs.Walking.{directory_within, leaf_tells, all_more, reach_more}
use Rattle.zr_objset.proofs.walks.walk.Goals as goal

pub returns-in_err-own-clause-errors : goal.returns-in_err-own-clause-errors
returns-in_err-own-clause-errors g c = λ s holds.
    let t = c.args.dir.now in
    let e = c.in_err-own in
    let x = c.from_residual in
    leaves_from s (all_reach s t) (tree_reach s t) (IsBadLeaf s) x.result e.field-0.0 (err_from_is_err_and x.result x.ensures.1) (tells_tree s (tree_blocks s t) (all_reach s t) (tree_reach s t) (IsBadLeaf s) _ (directory_within s t) (e.ensures.errors s holds))

pub returns-in_err-walk_leaf-clause-errors : goal.returns-in_err-walk_leaf-clause-errors
returns-in_err-walk_leaf-clause-errors g c = λ s holds.
    let t = c.args.dir.now in
    let items = c.deref-b-items.result.now in
    let lt : c.loop-b.b-index < length items = omega arith in
    let e = c.in_err-walk_leaf in
    let x = c.from_residual-in_err-walk_leaf in
    leaves_from s (all_reach s t) (tree_reach s t) (IsBadLeaf s) x.result e.field-0.0 (err_from_is_err_and x.result x.ensures.1)
    (leaf_tells s t items c.loop-b.b-index _ _ (c.deref-b-items.ensures.value ∙ c.in_ok-own.ensures.reach s holds) lt (e.ensures.errors s (c.loop-b.invariant.same s holds)))

pub loop-b-preserved : goal.loop-b-preserved
loop-b-preserved g c =
    let items = c.deref-b-items.result.now in
    let i = c.loop-b.b-index in
    let lt : i < length items = omega arith in
    let inv = c.loop-b.invariant in
    let h = c.in_ok-walk_leaf.ensures in
    record {
      follows = λ start so_far. h.follows start (inv.follows start so_far);
      costs = costs_then inv.costs h.costs;
      same = λ s holds. h.same s (inv.same s holds);
      formed = λ s holds. all_more (IsFormed s) items i _ lt (inv.formed s holds) (h.formed s (inv.same s holds));
      objects = λ s holds. all_more (HasSoundObjects s) items i _ lt (inv.objects s holds) (h.objects s (inv.same s holds));
      so_far = λ s holds. reach_more (leaf_reach s) items i _ c.in_ok-out.out.items c.loop-b.out.items c.walk_leaf.new.out.items lt (inv.so_far s holds) (h.reach s (inv.same s holds));
    }
