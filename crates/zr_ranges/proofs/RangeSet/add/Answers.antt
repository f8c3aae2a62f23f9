use Rattle.std.proofs.Common.{drop, sym, subst}
use Rattle.zr_base.specs.Extents.{HasNone}
use Rattle.zr_ranges.specs.Ranges.{Ranges}
use Rattle.zr_ranges.proofs.Parts.{kept_more}
use Rattle.zr_ranges.proofs.RangeSet.add.Goals as goal

pub invariant_of-self-2 : goal.invariant_of-self-2
invariant_of-self-2 c =
    let apart : HasNone (drop c.self.inside.from c.self.inside.runs.items) c.args.e = subst (λ (r : Ranges). HasNone r.extents c.args.e) (sym c.self.view_is) c.requires.apart in
    kept_more _ _ _ _ _ _ _ _ _ c.self.invariant c.settle.ensures.from apart c.requires.not_empty (rw c.settle.ensures.items at c.in_ok-add_run.ensures.ok) (rw c.as_slice.ensures.value at c.run_around.ensures.run) c.run_around.ensures.inside c.joined-self-inside.ensures
