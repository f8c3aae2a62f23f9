use Rattle.std.proofs.Common.{◌<◌, length, List, sym, subst}
use Rattle.zr_base.specs.declared.space.Extent.{Extent}
use Rattle.zr_ranges.specs.Ranges.{Ranges}
use Rattle.zr_ranges.specs.Words.{TakesFromRun}
use Rattle.zr_ranges.proofs.Cuts.{front_cut}
use Rattle.zr_paged.specs.Pages.{all_of, pages_in}
use Rattle.zr_paged.proofs.Around.{paged_less}
use Rattle.zr_paged.proofs.PagedSet.take_front.Goals as goal

pub invariant_of-self : goal.invariant_of-self
invariant_of-self c =
    let es : List Extent = all_of (pages_in c.self.inside.front) in
    let some : 0 < length es = subst (λ (r : Ranges). 0 < length r.extents) (sym c.self.view_is) c.requires.not_empty in
    let cut : TakesFromRun es (all_of (pages_in c.take_in-taken.new.front)) c.in-Some.run' c.take_in-taken.result = front_cut es _ 0 c.args.n _ _ c.self.invariant.pages.maximal some (sym c.in-Some.ensures.some.1) c.take_in-taken.ensures.start c.take_in-taken.ensures.len c.take_in-taken.ensures.not_empty c.take_in-taken.ensures.removed in
    paged_less _ _ _ _ _ _ _ c.self.invariant cut c.take_in-taken.ensures.fit c.take_in-taken.ensures.front c.cut-self-inside.ensures
