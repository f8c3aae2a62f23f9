use Rattle.std.proofs.Common.{◌∙◌, List, sym, subst}
use Rattle.std.specs.List.{AllByRecursion}
use Rattle.zr_base.specs.declared.space.Extent.{Extent}
use Rattle.zr_base.specs.Extents.{HasAll}
use Rattle.zr_meta.proofs.Logs.{one_log}
use Rattle.zr_meta.proofs.log.sets_of.Goals as goal

pub returns-then-not-are_covered : goal.returns-then-not-are_covered
returns-then-not-are_covered c = λ x h.
    let held = one_log c.args.version c.args.dev c.args.units c.args.held.now x.held c.in-Some.held_set.extents h.held_is (rw c.in-Some.is at c.in_ok-held_set.ensures) in
    let kept = one_log c.args.version c.args.dev c.args.units c.args.kept.now x.kept c.in-Some-2.kept_set.extents h.kept_is (rw c.in-Some-2.is at c.in_ok-kept_set.ensures) in
    let k = c.are_covered.ensures.1
    (subst (λ (es : List Extent). AllByRecursion (HasAll es) c.extents.result.now) held (subst (AllByRecursion (HasAll x.held)) (kept ∙ sym c.extents.ensures.extents) h.covered)) in
    let is = c.if-not-are_covered.true in absurd cc

pub returns-then-not-is_none_kept : goal.returns-then-not-is_none_kept
returns-then-not-is_none_kept c = λ x h.
    let kept = one_log c.args.version c.args.dev c.args.units c.args.kept.now x.kept c.in-Some-2.kept_set.extents h.kept_is (rw c.in-Some-2.is at c.in_ok-kept_set.ensures) in
    let k = c.is_none_kept.ensures.1 (λ clear. c.extents-2.ensures.extents ∙ (sym kept ∙ h.none clear)) in
    let is = c.if-not-is_none_kept.true in absurd cc
