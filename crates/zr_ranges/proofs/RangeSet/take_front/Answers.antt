use Rattle.std.proofs.Common.{◌≡◌, ◌<◌, drop, length, List, sym, subst}
use Rattle.zr_base.specs.declared.space.Extent.{Extent}
use Rattle.zr_base.specs.Extents.{extent_at}
use Rattle.zr_ranges.specs.Ranges.{Ranges}
use Rattle.zr_ranges.specs.Words.{TakesFromRun}
use Rattle.zr_ranges.proofs.Cuts.{front_cut}
use Rattle.zr_ranges.proofs.Parts.{kept_less}
use Rattle.zr_ranges.proofs.RangeSet.take_front.Goals as goal

pub invariant_of-self : goal.invariant_of-self
invariant_of-self c =
    let xs : List Extent = drop c.self.inside.from c.self.inside.runs.items in
    let some : 0 < length xs = subst (λ (r : Ranges). 0 < length r.extents) (sym c.self.view_is) c.requires.not_empty in
    let value : extent_at xs 0 ≡ c.run_at-run.result = rw c.live.ensures at c.run_at-run.ensures.value in
    let cut : TakesFromRun xs (drop c.take_first-from.result.1 c.take_first-from.new.runs.items) c.run_at-run.result c.take_first-from.result.0 = front_cut _ _ 0 c.args.n _ _ c.self.invariant.maximal some value c.take_first-from.ensures.start c.take_first-from.ensures.len c.take_first-from.ensures.not_empty c.take_first-from.ensures.removed in
    kept_less _ _ _ _ _ _ _ _ _ c.self.invariant c.take_first-from.ensures.within cut c.cut-self-inside.ensures
