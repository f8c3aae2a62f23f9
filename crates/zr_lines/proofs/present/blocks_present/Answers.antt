use Rattle.std.proofs.Common.{◌≡◌, subst, sym, ◌∙◌}
use Rattle.std.proofs.lemmas.Result.{err_from_is_err_and}
use Rattle.zr_base.specs.declared.refusal.Refusal.TheVariants.{Damaged}
use Rattle.zr_tree.specs.Trees.{tree_blocks, TellsOf}
use Rattle.zr_sync.specs.declared.fault.Fault.TheVariants.{No}
use Rattle.zr_lines.proofs.Damaged.{of_tree}
use Rattle.zr_lines.proofs.present.blocks_present.Goals as goal

pub returns-in_err-blocks_of-clause-damaged : goal.returns-in_err-blocks_of-clause-damaged
returns-in_err-blocks_of-clause-damaged g c = λ s held at expected found is.
    let r = c.in_ok-rec.rec in
    let res = c.from_residual-in_err-blocks_of in
    let p = err_from_is_err_and res.result res.ensures.1 in
    let told : p.0 ≡ No (Damaged at expected found) = let e = sym p.1 ∙ is in cc in
    of_tree s c.args.dir.now c.args.group.now c.args.id (λ o index. ⊥) at expected found r c.in_err-blocks_of.field-0.0 p.0 (c.in_ok-rec.ensures.found s held)
    (subst (λ result. TellsOf s (tree_blocks s r.tree) result) c.in_err-blocks_of.was (c.blocks_of.ensures.errors s (c.record_present.ensures.same s held))) p.2 told
