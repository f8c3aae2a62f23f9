use Rattle.std.proofs.Common.{sym, ap, subst, List}
use Rattle.std.proofs.lemmas.Result.{err_from_is_err_and}
use Rattle.zr_bptr.specs.declared.Bptr.{Bptr}
use Rattle.zr_tree.specs.Trees.{tree_blocks, tree_reach, TellsOf}
use Rattle.zr_tree.proofs.Wholes.{tells_from, tells_within}
use Rattle.zr_objset.specs.Records.{object_reach}
use Rattle.zr_objset.proofs.Within.{blocks_within}
use Rattle.zr_objset.proofs.walks.walk_object.Goals as goal

pub returns-in_err-reach-clause-errors : goal.returns-in_err-reach-clause-errors
returns-in_err-reach-clause-errors g c = λ s holds.
    let t = c.in-Some.r.tree in
    let e = c.in_err-reach in
    let x = c.from_residual in
    subst (λ (xs : List Bptr). TellsOf s xs x.result) (sym (ap (object_reach s) c.in-Some.is))
    (tells_from s (tree_reach s t) x.result e.field-0.0 (err_from_is_err_and x.result x.ensures.1) (tells_within s (tree_blocks s t) (tree_reach s t) _ (blocks_within s t) (e.ensures.errors s holds)))
