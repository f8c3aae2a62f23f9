use Rattle.std.proofs.Common.{arith, leb-true}
use Rattle.std.proofs.lemmas.Bool.{le-leb, false≢true}
use Rattle.zr_base.specs.declared.space.Extent.{Extent}
use Rattle.zr_base.proofs.ExtentSets.{extent_fits, has_all-within, within-has_all}
use Rattle.zr_ranges.proofs.has_all.Goals as goal

abbrev none : Extent
none = record { start = 0; len = 0 }

pub overflow_add-result : goal.overflow_add-result
overflow_add-result c = omega (arith, extent_fits 0 c.first_above-i.result c.args.runs.now none c.requires c.if-i-runs.true)

pub returns-then-run-e : goal.returns-then-run-e
returns-then-run-e c = (
  λ t. within-has_all c.first_above-i.result c.args.runs.now c.args.e none (record { index = c.if-i-runs.true; starts = c.if-run-e.true; ends = omega (arith, leb-true _ _ t, c.first_above-i.ensures.above c.if-i-runs.true) }),
  λ all. le-leb _ _ (omega (arith, (has_all-within 0 c.first_above-i.result c.args.runs.now c.args.e none c.requires c.first_above-i.ensures.within c.first_above-i.ensures.below c.first_above-i.ensures.above (omega arith) all).ends)),
)

pub returns-else-run-e : goal.returns-else-run-e
returns-else-run-e c = (
  λ t. absurd (omega (arith, leb-true _ _ t)),
  λ all. absurd (omega (arith, (has_all-within 0 c.first_above-i.result c.args.runs.now c.args.e none c.requires c.first_above-i.ensures.within c.first_above-i.ensures.below c.first_above-i.ensures.above (omega arith) all).starts)),
)

pub returns-else-i-runs : goal.returns-else-i-runs
returns-else-i-runs c = (
  λ t. absurd (false≢true t),
  λ all. absurd (omega (arith, (has_all-within 0 c.first_above-i.result c.args.runs.now c.args.e none c.requires c.first_above-i.ensures.within c.first_above-i.ensures.below c.first_above-i.ensures.above (omega arith) all).index)),
)
