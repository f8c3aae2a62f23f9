use Rattle.std.proofs.Common.{[], ◌∷◌, ◌++◌, arith}
use Rattle.std.proofs.lemmas.Grind.{common_steps}
use Rattle.zr_base.specs.Extents.{IsMaximal}
use Rattle.zr_base.proofs.ExtentSets.{same_extents}
use Rattle.zr_paged.proofs.Joined.{maximal_back, apart_left, has_append}
use Rattle.zr_paged.proofs.page.append_run.Goals as goal

pub add-requires-clause-not_empty : goal.add-requires-clause-not_empty
add-requires-clause-not_empty c =
    let back : IsMaximal (c.args.e ∷ []) = maximal_back 0 _ (c.args.e ∷ []) c.requires in
    back.1

pub add-requires-clause-in_range : goal.add-requires-clause-in_range
add-requires-clause-in_range c =
    let back : IsMaximal (c.args.e ∷ []) = maximal_back 0 _ (c.args.e ∷ []) c.requires in
    back.2

pub add-requires-clause-apart : goal.add-requires-clause-apart
add-requires-clause-apart c = λ u inside. apart_left 0 u c.args.set.now.extents (c.args.e ∷ []) c.requires (grind (arith, common_steps, inside))

pub returns : goal.returns
returns c =
    same_extents 0 0 _ (c.args.set.now.extents ++ c.args.e ∷ []) c.in_ok-add.ensures.ok.maximal c.requires (λ u. grind (arith, common_steps, c.in_ok-add.ensures.ok.members u, has_append c.args.set.now.extents (c.args.e ∷ []) u))
