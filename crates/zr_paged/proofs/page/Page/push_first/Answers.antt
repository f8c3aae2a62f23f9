use Rattle.std.proofs.Common.{◌+◌, ◌∷◌, arith}
use Rattle.std.proofs.lemmas.Bool.Decides.{nat_tests}
use Rattle.std.proofs.lemmas.Grind.{common_steps}
use Rattle.zr_base.proofs.ExtentSets.{same_extents, has_unit-below}
use Rattle.zr_paged.proofs.page.Page.push_first.Goals as goal

pub add_reserved-requires-clause-apart : goal.add_reserved-requires-clause-apart
add_reserved-requires-clause-apart c = λ u inside. rw c.self.view_is (has_unit-below (c.args.e.start + c.args.e.len + 1) u c.args.self.now c.requires.maximal.3 (grind (arith, nat_tests, inside)))

pub returns : goal.returns
returns c =
    rw (← c.self.view_is)
    (same_extents 0 0 _ (c.args.e ∷ c.self.inside.runs.extents) c.add_reserved.ensures.added.maximal (rw (← c.self.view_is) at c.requires.maximal) (λ u. grind (arith, common_steps, c.add_reserved.ensures.added.members u)))
