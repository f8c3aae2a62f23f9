use Rattle.std.proofs.Common.{◌≡◌, drop, Some, List, arith}
use Rattle.zr_base.specs.declared.space.Extent.{Extent}
use Rattle.zr_ranges.specs.Words.{run_of, TakesFromRun}
use Rattle.zr_ranges.proofs.Cuts.{settled_cut}
use Rattle.zr_ranges.proofs.Parts.{kept_less}
use Rattle.zr_ranges.proofs.RangeSet.remove.Goals as goal

pub invariant_of-self-2 : goal.invariant_of-self-2
invariant_of-self-2 c =
    let xs : List Extent = drop c.self.inside.from c.self.inside.runs.items in
    let around : run_of c.args.e.start xs ≡ Some c.run_around-run.result = rw (c.as_slice.ensures.value, c.settle.ensures.items) at c.run_around-run.ensures.run in
    let cut : TakesFromRun xs c.remove_run.new.runs.items c.run_around-run.result c.args.e = record {
      maximal = c.self.invariant.maximal;
      not_empty = c.requires.not_empty;
      around = around;
      inside = c.run_around-run.ensures.inside;
      removes = rw c.settle.ensures.items at c.in_ok-remove_run.ensures.ok;
    } in
    kept_less _ _ _ _ _ _ _ _ _ c.self.invariant (omega (arith, c.settle.ensures.from)) (settled_cut _ _ _ _ _ c.settle.ensures.from cut) c.cut-self-inside.ensures
