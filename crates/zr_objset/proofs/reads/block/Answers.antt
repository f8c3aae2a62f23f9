use Rattle.std.proofs.Common.{◌≡◌, ◌∙◌, ◌∷◌, [], sym}
use Rattle.std.proofs.lemmas.Result.{err_from_is_err_and}
use Rattle.zr_bptr.specs.declared.Ptr.TheVariants.{At}
use Rattle.zr_tree.specs.Trees.{own, tree_at, tree_reach}
use Rattle.zr_objset.specs.Errors.{IsOtherSize}
use Rattle.zr_objset.proofs.Tells.{leaves_from, of_tree, of_leaf, of_get}
use Rattle.zr_objset.proofs.reads.block.Goals as goal

pub returns-in_err-leaf-clause-errors : goal.returns-in_err-leaf-clause-errors
returns-in_err-leaf-clause-errors g c = λ s holds.
    let t = c.args.rec.now.tree in
    let leaves = own (tree_at s t c.args.index) in
    let e = c.in_err-leaf in
    let x = c.from_residual in
    leaves_from s (tree_reach s t) leaves (IsOtherSize c.args.rec.now.units) x.result e.field-0.0 (err_from_is_err_and x.result x.ensures.1) (of_tree s t leaves (IsOtherSize c.args.rec.now.units) _ (e.ensures.errors s holds))

pub returns-clause-errors : goal.returns-clause-errors
returns-clause-errors g c = λ s holds.
    let t = c.args.rec.now.tree in
    let b = c.in-At.b in
    let Bad = IsOtherSize c.args.rec.now.units in
    let h = c.get-2.ensures in
    let u = c.get.new.store in
    let still = c.in_ok-leaf.ensures.same s holds in
    let leaf_is : tree_at s t c.args.index ≡ At b = sym (c.in_ok-leaf.ensures.leaf s holds) ∙ c.in-At.is in
    let there = of_get s (g.B.Blocks.account u) (g.B.Blocks.account c.get-2.new.self) b (b ∷ []) Bad c.get-2.result h.cause h.unresolved h.damaged (h.found s still) h.formed (g.met.B.Blocks.resolved u s still) in
    of_leaf s t c.args.index b Bad c.get-2.result leaf_is there
