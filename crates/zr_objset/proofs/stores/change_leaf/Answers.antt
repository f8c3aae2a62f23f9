use Rattle.std.proofs.Common.{[], arith}
use Rattle.std.proofs.lemmas.Result.{err_from_is_err_and}
use Rattle.zr_tree.specs.Trees.{own}
use Rattle.zr_objset.specs.Errors.{IsNoLeaf}
use Rattle.zr_objset.proofs.Tells.{leaves_from, tells_tree}
use Rattle.zr_objset.proofs.stores.change_leaf.Goals as goal

pub returns-in_err-new-clause-errors : goal.returns-in_err-new-clause-errors
returns-in_err-new-clause-errors g c = λ s holds.
    let p = c.args.old.now in
    let e = c.in_err-new in
    let x = c.from_residual-in_err-new in
    leaves_from s (own p) (own p) (IsNoLeaf s) x.result e.field-0.0 (err_from_is_err_and x.result x.ensures.1) (tells_tree s [] (own p) (own p) (IsNoLeaf s) _ (λ weight. omega arith) (e.ensures.errors s))
