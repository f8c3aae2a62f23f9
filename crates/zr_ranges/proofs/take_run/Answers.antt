use Rattle.std.proofs.Common.{◌≡◌, refl, arith}
use Rattle.zr_base.specs.declared.space.Extent.{Extent}
use Rattle.zr_base.specs.Extents.{extent_at}
use Rattle.zr_ranges.proofs.Edits.{removes-whole, removes-front, has_all-front}
use Rattle.zr_base.proofs.ExtentSets.{extent_fits}
use Rattle.zr_ranges.proofs.take_run.Goals as goal

abbrev none : Extent
none = record { start = 0; len = 0 }

pub returns-then-run-n-clause-removed : goal.returns-then-run-n-clause-removed
returns-then-run-n-clause-removed c =
    let value : extent_at c.args.runs.now.items c.args.i ≡ c.run_at-run.result = rw c.as_slice.ensures.value at c.run_at-run.ensures.value in
    rw c.remove.ensures.items (removes-whole _ _ c.run_at-run.result c.args.i (record { maximal = c.requires.maximal; not_empty = rw value at (extent_fits 0 c.args.i _ none c.requires.maximal c.requires.index).0; index = c.requires.index; value = value }) refl refl)

pub returns-else-run-n-clause-removed : goal.returns-else-run-n-clause-removed
returns-else-run-n-clause-removed c =
    let value : extent_at c.args.runs.now.items c.args.i ≡ c.run_at-run.result = rw c.as_slice.ensures.value at c.run_at-run.ensures.value in
    removes-front _ _ _ _ c.requires.maximal c.requires.index value c.if-run-n.false

pub returns-then-run-n-clause-covered : goal.returns-then-run-n-clause-covered
returns-then-run-n-clause-covered c =
    has_all-front c.args.runs.now.items c.run_at-run.result c.run_at-run.result.len c.args.i c.requires.index (rw c.as_slice.ensures.value at c.run_at-run.ensures.value) (omega arith)

pub returns-else-run-n-clause-covered : goal.returns-else-run-n-clause-covered
returns-else-run-n-clause-covered c =
    has_all-front c.args.runs.now.items c.run_at-run.result c.args.n c.args.i c.requires.index (rw c.as_slice.ensures.value at c.run_at-run.ensures.value) (omega arith)
