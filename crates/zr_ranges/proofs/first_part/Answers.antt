use Rattle.std.proofs.Common.{◌≡◌, ℕ, ◌+◌, ◌-◌, arith, sym, subst, refl}
use Rattle.std.proofs.lemmas.Bool.Decides.{nat_tests}
use Rattle.std.proofs.lemmas.Bool.{le-leb, lt-leb}
use Rattle.std.proofs.lemmas.List.{take_all}
use Rattle.zr_base.specs.declared.space.Extent.{Extent}
use Rattle.zr_base.specs.Extents.{EndsBy, extent_at, part_from, IsFirstPart}
use Rattle.zr_base.proofs.ExtentSets.{extent_fits, first_part_from-at, first_part_from-none, first_part-is, none_from}
use Rattle.zr_ranges.proofs.first_part.Goals as goal

pub overflow_add-result : goal.overflow_add-result
overflow_add-result c = omega (arith, extent_fits 0 c.first_above-i.result c.args.runs.now (record { start = 0; len = 0 }) c.requires c.if-i-runs.true)

pub returns-then-u-run-clause-value : goal.returns-then-u-run-clause-value
returns-then-u-run-clause-value c =
    grind (arith, nat_tests, first_part_from-at c.args.u c.first_above-i.result c.args.runs.now (record { start = 0; len = 0 }) c.first_above-i.ensures.below c.if-i-runs.true (c.first_above-i.ensures.above c.if-i-runs.true))

pub returns-else-u-run-clause-value : goal.returns-else-u-run-clause-value
returns-else-u-run-clause-value c =
    grind (arith, nat_tests, first_part_from-at c.args.u c.first_above-i.result c.args.runs.now (record { start = 0; len = 0 }) c.first_above-i.ensures.below c.if-i-runs.true (c.first_above-i.ensures.above c.if-i-runs.true))

pub returns-else-i-runs-clause-value : goal.returns-else-i-runs-clause-value
returns-else-i-runs-clause-value c =
    let by : EndsBy c.args.u c.args.runs.now = rw (take_all c.first_above-i.result c.args.runs.now c.if-i-runs.false) at c.first_above-i.ensures.below in
    sym (first_part_from-none c.args.u c.args.runs.now by)

pub returns-then-u-run-clause-some : goal.returns-then-u-run-clause-some
returns-then-u-run-clause-some c =
    let i : ℕ = c.first_above-i.result in
    let is_run : part_from c.args.u (extent_at c.args.runs.now i) ≡ extent_at c.args.runs.now i = rw (le-leb c.args.u (extent_at c.args.runs.now i).start c.if-u-run.true) refl in
    subst (λ (e : Extent). IsFirstPart c.args.runs.now c.args.u e) is_run
    (first_part-is 0 c.args.u i c.args.runs.now (record { start = 0; len = 0 }) c.requires c.first_above-i.ensures.below c.if-i-runs.true (c.first_above-i.ensures.above c.if-i-runs.true))

pub returns-else-u-run-clause-some : goal.returns-else-u-run-clause-some
returns-else-u-run-clause-some c =
    let i : ℕ = c.first_above-i.result in
    let run : Extent = extent_at c.args.runs.now i in
    let is_part : part_from c.args.u run ≡ record { start = c.args.u; len = run.start + run.len - c.args.u } = rw (lt-leb c.args.u run.start c.if-u-run.false) refl in
    subst (λ (e : Extent). IsFirstPart c.args.runs.now c.args.u e) is_part
    (first_part-is 0 c.args.u i c.args.runs.now (record { start = 0; len = 0 }) c.requires c.first_above-i.ensures.below c.if-i-runs.true (c.first_above-i.ensures.above c.if-i-runs.true))

pub returns-else-i-runs-clause-none : goal.returns-else-i-runs-clause-none
returns-else-i-runs-clause-none c =
    let by : EndsBy c.args.u c.args.runs.now = rw (take_all c.first_above-i.result c.args.runs.now c.if-i-runs.false) at c.first_above-i.ensures.below in
    none_from c.args.u c.args.runs.now by
