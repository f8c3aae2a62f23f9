use Rattle.std.proofs.Common.{◌≡◌, ◌<◌, drop, length, List, sym, subst, arith}
use Rattle.zr_base.specs.declared.space.Extent.{Extent}
use Rattle.zr_base.specs.Extents.{extent_at}
use Rattle.zr_ranges.specs.Ranges.{Ranges}
use Rattle.zr_ranges.specs.Words.{TakesFromRun}
use Rattle.zr_ranges.proofs.Cuts.{front_cut, settled_cut}
use Rattle.zr_ranges.proofs.Parts.{kept_less}
use Rattle.zr_ranges.proofs.RangeSet.take_from.Goals as goal

pub cut-self-inside-requires : goal.cut-self-inside-requires
cut-self-inside-requires c =
    let xs : List Extent = drop c.self.inside.from c.self.inside.runs.items in
    let lt : c.args.i < length xs = subst (λ (r : Ranges). c.args.i < length r.extents) (sym c.self.view_is) c.requires.index in
    let value : extent_at xs c.args.i ≡ c.run_at-run.result = rw (c.as_slice.ensures.value, c.settle.ensures.items) at c.run_at-run.ensures.value in
    let cut : TakesFromRun xs c.take_run-taken.new.runs.items c.run_at-run.result c.take_run-taken.result = front_cut _ _ c.args.i c.args.n _ _ c.self.invariant.maximal lt value (rw c.settle.ensures.items at c.take_run-taken.ensures.start) (rw c.settle.ensures.items at c.take_run-taken.ensures.len) c.take_run-taken.ensures.not_empty (rw c.settle.ensures.items at c.take_run-taken.ensures.removed) in
    (xs, c.take_run-taken.new.runs.items, c.self.invariant.words, cut)

pub invariant_of-self : goal.invariant_of-self
invariant_of-self c =
    let xs : List Extent = drop c.self.inside.from c.self.inside.runs.items in
    let lt : c.args.i < length xs = subst (λ (r : Ranges). c.args.i < length r.extents) (sym c.self.view_is) c.requires.index in
    let value : extent_at xs c.args.i ≡ c.run_at-run.result = rw (c.as_slice.ensures.value, c.settle.ensures.items) at c.run_at-run.ensures.value in
    let cut : TakesFromRun xs c.take_run-taken.new.runs.items c.run_at-run.result c.take_run-taken.result = front_cut _ _ c.args.i c.args.n _ _ c.self.invariant.maximal lt value (rw c.settle.ensures.items at c.take_run-taken.ensures.start) (rw c.settle.ensures.items at c.take_run-taken.ensures.len) c.take_run-taken.ensures.not_empty (rw c.settle.ensures.items at c.take_run-taken.ensures.removed) in
    kept_less _ _ _ _ _ _ _ _ _ c.self.invariant (omega (arith, c.settle.ensures.from)) (settled_cut _ _ _ _ _ c.settle.ensures.from cut) c.cut-self-inside.ensures
