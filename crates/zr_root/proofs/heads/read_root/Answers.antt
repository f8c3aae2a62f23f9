use Rattle.std.proofs.Common.{◌≡◌, length, List, ℕ, Vec, Global, subst}
use Rattle.std.proofs.lemmas.Result.{err_from_is_err_and}
use Rattle.zr_bptr.specs.declared.Tree.{Tree}
use Rattle.zr_tree.specs.Trees.{tree_reach}
use Rattle.zr_root.specs.Streams.{HasBytes}
use Rattle.zr_root.specs.Levels.{TellsOfForm}
use Rattle.zr_root.proofs.Reading.{form_from, within_same}
use Rattle.zr_root.proofs.Beside.{one_tree}
use Rattle.zr_root.proofs.heads.read_root.Goals as goal

pub returns-in_err-bytes-clause-errors : goal.returns-in_err-bytes-clause-errors
returns-in_err-bytes-clause-errors g c = λ s held t is.
    let e = c.in_err-bytes in
    let x = c.from_residual in
    let u = c.tree_for-t.result in
    subst (λ (v : Tree). TellsOfForm s (tree_reach s v) (λ b. (bytes : List ℕ) → length bytes ≡ c.args.len → ¬ HasBytes s v bytes) x.result) (one_tree c.args.len c.args.root.now u t c.tree_for-t.ensures.tree is)
    (form_from {T = Vec ℕ Global} s (tree_reach s u) (tree_reach s u) _ _ x.result e.field-0.0 (err_from_is_err_and x.result x.ensures.1) (within_same (tree_reach s u)) (λ b none. none) (e.ensures.errors s held))
