use Rattle.std.proofs.Common.{sym, subst, arith}
use Rattle.zr_base.specs.Extents.{HasNone}
use Rattle.zr_ranges.specs.Ranges.{Ranges}
use Rattle.zr_ranges.proofs.Edits.{count_bound}
use Rattle.zr_paged.specs.Pages.{all_of, pages_in}
use Rattle.zr_paged.proofs.Around.{paged_more}
use Rattle.zr_paged.proofs.PagedSet.add_reserved.Goals as goal

pub overflow_add-self : goal.overflow_add-self
overflow_add-self c = omega (arith, count_bound _ c.add_in.ensures.added.maximal, c.add_in.ensures.added.count, c.self.invariant.counted)

pub invariant_of-self : goal.invariant_of-self
invariant_of-self c =
    let apart : HasNone (all_of (pages_in c.self.inside.front)) c.args.e = subst (λ (r : Ranges). HasNone r.extents c.args.e) (sym c.self.view_is) c.requires.apart in
    paged_more _ _ _ _ _ _ _ c.self.invariant apart c.requires.not_empty c.add_in.ensures.added c.add_in.ensures.fit c.add_in.ensures.front c.run_around.ensures.around c.run_around.ensures.inside c.joined-self-inside.ensures
