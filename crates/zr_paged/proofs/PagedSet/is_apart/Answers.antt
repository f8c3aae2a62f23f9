use Rattle.std.proofs.Common.{◌≡◌, ◌-◌, ◌<◌, ◌≤◌, true, ⊎_elim, arith}
use Rattle.std.proofs.lemmas.Bool.{cases_lt}
use Rattle.std.proofs.lemmas.Bool.Decides.{nat_tests}
use Rattle.zr_base.specs.Extents.{has_unit}
use Rattle.zr_paged.proofs.PagedSet.is_apart.Goals as goal

pub returns-in-Some : goal.returns-in-Some
returns-in-Some c =
    let e = c.args.e in
    let part = c.in-Some.part in
    let first = c.in-Some.ensures.some in
    let from : e.start ≤ part.start = first.from in
    let some : 0 < part.len = first.not_empty in
    let there : has_unit c.args.self.now.extents part.start ≡ true = first.covered part.start (grind (arith, nat_tests, some)) in (
      λ yes u inside. first.gap u (grind (arith, nat_tests, inside)) (grind (arith, nat_tests, inside, yes, from)),
      λ none. ⊎_elim
          (λ meets. (let gone = none part.start (grind (arith, nat_tests, from, meets)) in absurd cc))
          (λ apart. grind (arith, nat_tests, apart))
          (cases_lt (part.start - e.start) e.len),
    )
