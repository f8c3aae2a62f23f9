use Rattle.std.proofs.Common.{◌≡◌, ◌+◌, ◌<◌, ◌∷◌, ◌++◌, [], List, take, ap, arith, ◌∙◌}
use Rattle.zr_base.specs.declared.space.Extent.{Extent}
use Rattle.zr_paged.proofs.Walking.{above, cut_above, all_above, next_part, none_above}
use Rattle.zr_space.specs.Discards.{on_device}
use Rattle.zr_space.proofs.Lowest.{next_taken, none_taken}
use Rattle.zr_space.proofs.ckpt.push_lowest.Goals as goal

pub loop-missing-init : goal.loop-missing-init
loop-missing-init c =
    let es = c.args.kept.now.extents in
    record {
      cut = cut_above 0 0 es c.first-lowest.ensures.maximal (omega arith);
      so_far = ap (λ (xs : List Extent). c.args.list.now.items ++ take c.args.n (on_device c.args.dev xs)) (all_above 0 0 es c.first-lowest.ensures.maximal (omega arith));
    }

pub returns-in_default : goal.returns-in_default
returns-in_default c =
    let none : above c.loop-missing.at c.args.kept.now.extents ≡ [] = none_above 0 c.loop-missing.at c.args.kept.now.extents c.first-lowest.ensures.maximal c.in_default.ensures.none in
    none_taken c.args.dev c.loop-missing.missing (above c.loop-missing.at c.args.kept.now.extents) c.loop-missing.list.items none ∙ c.loop-missing.invariant.so_far

pub overflow_add-at : goal.overflow_add-at
overflow_add-at c =
    let next = next_part 0 c.loop-missing.at c.args.kept.now.extents c.in-Some.part c.first-lowest.ensures.maximal c.loop-missing.invariant.cut c.in-Some.ensures.some in
    omega (arith, next.bound)

pub loop-missing-preserved : goal.loop-missing-preserved
loop-missing-preserved c =
    let es = c.args.kept.now.extents in
    let next = next_part 0 c.loop-missing.at es c.in-Some.part c.first-lowest.ensures.maximal c.loop-missing.invariant.cut c.in-Some.ensures.some in
    let some : 0 < c.loop-missing.missing = omega (arith, c.loop-missing-test.true) in
    let pushed : c.push.new.self.items ≡ c.loop-missing.list.items ++ (c.args.dev, c.in-Some.part) ∷ [] = c.in_ok-push.ensures.items in
    record {
      cut = next.cut;
      so_far = next_taken c.args.dev c.loop-missing.missing c.in-Some.part (above c.loop-missing.at es) (above (c.in-Some.part.start + c.in-Some.part.len) es) c.loop-missing.list.items c.push.new.self.items some next.here pushed ∙ c.loop-missing.invariant.so_far;
    }
