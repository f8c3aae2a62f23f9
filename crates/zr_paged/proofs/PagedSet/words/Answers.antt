use Rattle.std.proofs.Common.{◌≤◌, subst}
use Rattle.zr_base.specs.Extents.{unit_count}
use Rattle.zr_ranges.specs.Ranges.{Ranges}
use Rattle.zr_ranges.proofs.Cuts.{words_by_count}
use Rattle.zr_paged.proofs.PagedSet.words.Goals as goal

pub returns-clause-few : goal.returns-clause-few
returns-clause-few c =
    subst (λ (r : Ranges). c.of.result ≤ unit_count r.extents) c.self.view_is
    (words_by_count c.args.version c.of.result _ _ c.self.invariant.pages.maximal c.self.invariant.words c.of.ensures)
