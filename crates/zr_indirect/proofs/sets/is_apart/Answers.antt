use Rattle.std.proofs.Common.{◌-◌, ⊎_elim, arith, leb-true}
use Rattle.std.proofs.lemmas.Bool.{cases_lt, le-leb}
use Rattle.std.proofs.lemmas.Bool.Decides.{nat_tests}
use Rattle.zr_indirect.proofs.sets.is_apart.Goals as goal

pub returns-in-Some : goal.returns-in-Some
returns-in-Some c =
    let part = c.in-Some.ensures.some in (
      λ t u h. part.gap u (grind (arith, nat_tests, h)) (grind (arith, nat_tests, h, leb-true _ _ t, part.from)),
      λ none. le-leb _ _ (⊎_elim
          (λ lt. absurd (grind (arith, nat_tests, none c.in-Some.part.start, part.covered c.in-Some.part.start, part.not_empty, part.from, lt)))
          (λ ge. ge)
          (cases_lt (c.in-Some.part.start - c.args.e.start) c.args.e.len)),
    )
