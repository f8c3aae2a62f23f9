use Rattle.std.proofs.Common.{◌≡◌, ℕ, ◌+◌, ◌-◌, ◌∙◌, arith, ap, sym}
use Rattle.std.proofs.lemmas.Bool.Decides.{nat_tests}
use Rattle.zr_base.specs.Extents.{has_unit, IsFirstPart}
use Rattle.zr_rules.specs.Places.{count_below}
use Rattle.zr_obsolete.proofs.Counting.{count-le, gap_to, run_to}
use Rattle.zr_obsolete.proofs.fresh_in.Goals as goal

pub returns-in_default : goal.returns-in_default
returns-in_default c =
    let gap = gap_to c.args.fresh.now.extents c.args.e.src c.loop-at.at (c.args.e.src + c.args.e.len) c.loop-at.invariant.from c.loop-at.invariant.to (λ v from lt. c.in_default.ensures.none v from) in
    let is : c.args.e.src + c.args.e.len - c.args.e.src ≡ c.args.e.len = omega arith in
    record { units = c.loop-at.invariant.count_is ∙ sym gap ∙ ap (λ (n : ℕ). count_below n (λ k. has_unit c.args.fresh.now.extents (c.args.e.src + k))) is }

pub returns-then-part-end : goal.returns-then-part-end
returns-then-part-end c =
    let first : IsFirstPart c.args.fresh.now.extents c.loop-at.at c.in-Some.part = c.in-Some.ensures.some in
    let gap = gap_to c.args.fresh.now.extents c.args.e.src c.loop-at.at (c.args.e.src + c.args.e.len) c.loop-at.invariant.from c.loop-at.invariant.to (λ v from lt. first.gap v from (omega arith)) in
    let is : c.args.e.src + c.args.e.len - c.args.e.src ≡ c.args.e.len = omega arith in
    record { units = c.loop-at.invariant.count_is ∙ sym gap ∙ ap (λ (n : ℕ). count_below n (λ k. has_unit c.args.fresh.now.extents (c.args.e.src + k))) is }

pub overflow_add-count : goal.overflow_add-count
overflow_add-count c =
    let first : IsFirstPart c.args.fresh.now.extents c.loop-at.at c.in-Some.part = c.in-Some.ensures.some in
    let some = count-le (c.loop-at.at - c.args.e.src) (λ k. has_unit c.args.fresh.now.extents (c.args.e.src + k)) in
    omega (arith, some, c.loop-at.invariant.count_is, first.from, c.min-n.ensures)

pub loop-at-preserved : goal.loop-at-preserved
loop-at-preserved c =
    let first : IsFirstPart c.args.fresh.now.extents c.loop-at.at c.in-Some.part = c.in-Some.ensures.some in
    let run = run_to c.args.fresh.now.extents c.args.e.src c.loop-at.at c.in-Some.part.start c.min-n.result c.loop-at.invariant.from first.from first.gap
    (λ v from lt. first.covered v (grind (arith, nat_tests, c.min-n.ensures))) in
    record {
      from = omega (arith, first.from);
      to = omega (arith, c.min-n.ensures);
      end_is = c.loop-at.invariant.end_is;
      count_is = omega (arith, run, c.loop-at.invariant.count_is);
    }
