use Rattle.zr_ranges.specs.Words.{TakesFromRun}
use Rattle.zr_paged.specs.Pages.{all_of, pages_in}
use Rattle.zr_paged.proofs.Around.{paged_less}
use Rattle.zr_paged.proofs.PagedSet.remove_reserved.Goals as goal

pub invariant_of-self : goal.invariant_of-self
invariant_of-self c =
    let cut : TakesFromRun (all_of (pages_in c.self.inside.front)) (all_of (pages_in c.remove_in.new.front)) c.run_around-run.result c.args.e = record {
      maximal = c.self.invariant.pages.maximal;
      not_empty = c.requires.not_empty;
      around = c.run_around-run.ensures.around;
      inside = c.run_around-run.ensures.inside;
      removes = c.remove_in.ensures.removed;
    } in
    paged_less _ _ _ _ _ _ _ c.self.invariant cut c.remove_in.ensures.fit c.remove_in.ensures.front c.cut-self-inside.ensures
