use Rattle.std.proofs.Common.{ℕ, subst}
use Rattle.zr_base.specs.Trees.{IsHeight}
use Rattle.zr_root.proofs.Beside.{low_height}
use Rattle.zr_root.proofs.heads.tree_for.Goals as goal

pub returns-clause-low : goal.returns-clause-low
returns-clause-low c = low_height c.args.len c.height.result c.requires (subst (λ (n : ℕ). IsHeight n c.height.result) c.div_ceil.ensures c.height.ensures.height)
