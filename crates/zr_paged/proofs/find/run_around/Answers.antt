use Rattle.std.proofs.Common.{◌≡◌, true, sym, ◌∙◌, arith}
use Rattle.std.proofs.lemmas.Bool.Decides.{nat_tests}
use Rattle.zr_base.specs.Extents.{has_unit}
use Rattle.zr_ranges.proofs.Cuts.{run_of-some, run_of-covers}
use Rattle.zr_paged.specs.Pages.{all_of, pages_in}
use Rattle.zr_paged.proofs.find.run_around.Goals as goal

pub unreachable-requires : goal.unreachable-requires
unreachable-requires c =
    let some = c.requires.not_empty in
    let there : has_unit (all_of (pages_in c.args.tree.now)) c.args.e.start ≡ true = c.requires.covered c.args.e.start (grind (arith, nat_tests, some)) in
    run_of-some c.args.e.start _ there (sym c.run_with.ensures ∙ c.in-None.is)

pub returns-clause-inside : goal.returns-clause-inside
returns-clause-inside c = run_of-covers (all_of (pages_in c.args.tree.now)) c.args.e c.in-Some.run' c.requires.pages.maximal c.requires.covered (sym c.run_with.ensures ∙ c.in-Some.is)
