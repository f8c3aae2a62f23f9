use Rattle.std.proofs.Common.{◌≡◌, ◌∙◌, ◌/◌, sym, ap}
use Rattle.std.proofs.lemmas.Result.{err_from_is_err_and}
use Rattle.zr_bptr.specs.declared.Ptr.TheVariants.{At}
use Rattle.zr_tree.specs.Trees.{own, tree_at, tree_reach}
use Rattle.zr_objset.specs.Errors.{IsNoLeaf}
use Rattle.zr_objset.proofs.Tells.{leaves_from, of_tree, of_leaf}
use Rattle.zr_objset.proofs.reads.look.Goals as goal

pub returns-in_err-leaf-clause-errors : goal.returns-in_err-leaf-clause-errors
returns-in_err-leaf-clause-errors g c = λ s holds.
    let t = c.args.dir.now in
    let leaves = own (tree_at s t (c.args.id / 16)) in
    let e = c.in_err-leaf in
    let x = c.from_residual in
    leaves_from s (tree_reach s t) leaves (IsNoLeaf s) x.result e.field-0.0 (err_from_is_err_and x.result x.ensures.1) (of_tree s t leaves (IsNoLeaf s) _ (e.ensures.errors s holds))

pub returns-in_err-records-in-At-clause-errors : goal.returns-in_err-records-in-At-clause-errors
returns-in_err-records-in-At-clause-errors g c = λ s holds.
    let t = c.args.dir.now in
    let b = c.in-At.b in
    let e = c.in_err-records-in-At in
    let x = c.from_residual-in_err-records-in-At in
    let leaf_is : tree_at s t (c.args.id / 16) ≡ At b = sym (c.in_ok-leaf.ensures.leaf s holds ∙ ap (tree_at s t) c.from.ensures) ∙ c.in-At.is in
    let here = e.ensures.errors s (c.in_ok-leaf.ensures.same s holds) in
    leaves_from s (tree_reach s t) (own (tree_at s t (c.args.id / 16))) (IsNoLeaf s) x.result e.field-0.0 (err_from_is_err_and x.result x.ensures.1) (of_leaf s t (c.args.id / 16) b (IsNoLeaf s) _ leaf_is here)
