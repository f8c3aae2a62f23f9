use Rattle.std.proofs.Common.{◌∙◌, ◌<◌, ◌∷◌, [], length, get_or, None, arith}
use Rattle.std.proofs.lemmas.Result.{err_from_is_err_and}
use Rattle.zr_objset.specs.Records.{object_reach, leaf_reach}
use Rattle.zr_store.proofs.Causes.{costs_then}
use Rattle.zr_objset.specs.Errors.{IsBadLeaf, IsSoundObject}
use Rattle.zr_objset.proofs.Tells.{leaves_from, tells_bad_leaf, tells_tree}
use Rattle.zr_objset.proofs.Walking.{object_within, all_more, reach_more}
use Rattle.zr_objset.proofs.walks.walk_leaf.Goals as goal

pub returns-in_err-records-clause-errors : goal.returns-in_err-records-clause-errors
returns-in_err-records-clause-errors g c = λ s holds.
    let b = c.args.b.now in
    let e = c.in_err-records in
    let x = c.from_residual in
    leaves_from s (b ∷ leaf_reach s b) (b ∷ []) (IsBadLeaf s) x.result e.field-0.0 (err_from_is_err_and x.result x.ensures.1) (tells_bad_leaf s b (leaf_reach s b) _ c.if-b-ne0.false (e.ensures.errors s holds))

pub returns-in_err-walk_object-clause-errors : goal.returns-in_err-walk_object-clause-errors
returns-in_err-walk_object-clause-errors g c = λ s holds.
    let b = c.args.b.now in
    let items = c.deref-object-items.result.now in
    let i = c.loop-object.object-index in
    let object = get_or items i None in
    let lt : i < length items = omega arith in
    let e = c.in_err-walk_object in
    let x = c.from_residual-in_err-walk_object in
    let below = e.ensures.errors s (c.loop-object.invariant.same s holds) in
    let within = object_within s b items i None c.if-b-ne0.false (c.deref-object-items.ensures.value ∙ c.in_ok-records.ensures.means s holds) lt in
    leaves_from s (b ∷ leaf_reach s b) (b ∷ []) (IsBadLeaf s) x.result e.field-0.0 (err_from_is_err_and x.result x.ensures.1) (tells_tree s (object_reach s object) (b ∷ leaf_reach s b) (b ∷ []) (IsBadLeaf s) _ within below)

pub loop-object-preserved : goal.loop-object-preserved
loop-object-preserved g c =
    let items = c.deref-object-items.result.now in
    let i = c.loop-object.object-index in
    let lt : i < length items = omega arith in
    let inv = c.loop-object.invariant in
    let h = c.in_ok-walk_object.ensures in
    record {
      follows = λ start so_far. h.follows start (inv.follows start so_far);
      costs = costs_then inv.costs h.costs;
      same = λ s holds. h.same s (inv.same s holds);
      sound = λ s holds. all_more (IsSoundObject s) items i _ lt (inv.sound s holds) (h.sound s (inv.same s holds));
      so_far = λ s holds. reach_more (object_reach s) items i _ c.args.out.now.items c.loop-object.out.items c.walk_object.new.out.items lt (inv.so_far s holds) (h.reach s (inv.same s holds));
    }
