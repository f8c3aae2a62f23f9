use Rattle.std.proofs.Common.{[], ◌∷◌, ◌++◌, arith}
use Rattle.std.proofs.lemmas.Grind.{common_steps}
use Rattle.zr_base.specs.Extents.{IsMaximal}
use Rattle.zr_base.proofs.ExtentSets.{same_extents}
use Rattle.zr_paged.proofs.Joined.{maximal_back, apart_left, has_append}
use Rattle.zr_paged.proofs.page.Page.push_last.Goals as goal

pub add_reserved-requires-clause-not_empty : goal.add_reserved-requires-clause-not_empty
add_reserved-requires-clause-not_empty c =
    let back : IsMaximal (c.args.e ∷ []) = maximal_back 0 _ (c.args.e ∷ []) c.requires.maximal in
    back.1

pub add_reserved-requires-clause-in_range : goal.add_reserved-requires-clause-in_range
add_reserved-requires-clause-in_range c =
    let back : IsMaximal (c.args.e ∷ []) = maximal_back 0 _ (c.args.e ∷ []) c.requires.maximal in
    back.2

pub add_reserved-requires-clause-apart : goal.add_reserved-requires-clause-apart
add_reserved-requires-clause-apart c = λ u inside. rw c.self.view_is (apart_left 0 u c.args.self.now (c.args.e ∷ []) c.requires.maximal (grind (arith, common_steps, inside)))

pub returns : goal.returns
returns c =
    rw (← c.self.view_is)
    (same_extents 0 0 _ (c.self.inside.runs.extents ++ c.args.e ∷ []) c.add_reserved.ensures.added.maximal (rw (← c.self.view_is) at c.requires.maximal) (λ u. grind (arith, common_steps, c.add_reserved.ensures.added.members u, has_append c.self.inside.runs.extents (c.args.e ∷ []) u)))
