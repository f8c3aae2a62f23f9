use Rattle.std.proofs.Common.{◌||◌, List, ap, ◌∙◌, ◌&&◌, nat_lt}
use Rattle.zr_base.specs.declared.space.Extent.{Extent}
use Rattle.zr_base.specs.Extents.{has_unit}
use Rattle.zr_audit.specs.Found.{ends_at}
use Rattle.zr_audit.proofs.Counts.{all_three, below, counted}
use Rattle.zr_audit.proofs.found.count_found.Goals as goal

pub count-requires-clause-within : goal.count-requires-clause-within
count-requires-clause-within c =
    below c.put_ends-2.new.set.extents (λ u. (ends_at c.args.live.now c.args.dev u || has_unit c.args.copies.now.extents u) || ends_at c.args.meta.now c.args.dev u) c.args.units
    (all_three c.new-set.result.extents c.put_ends.new.set.extents c.put_units.new.set.extents c.put_ends-2.new.set.extents c.args.copies.now.extents c.args.live.now c.args.meta.now c.args.dev c.args.units
    c.new-set.ensures c.in_ok-put_ends.ensures (λ u. c.in_ok-put_units.ensures u ∙ ap (λ (es : List Extent). has_unit c.put_ends.new.set.extents u || (has_unit es u && nat_lt u c.args.units)) c.extents.ensures.extents) c.in_ok-put_ends-2.ensures)

pub returns : goal.returns
returns c =
    counted c.put_ends-2.new.set.extents (λ u. (ends_at c.args.live.now c.args.dev u || has_unit c.args.copies.now.extents u) || ends_at c.args.meta.now c.args.dev u) c.args.units c.count.result
    (all_three c.new-set.result.extents c.put_ends.new.set.extents c.put_units.new.set.extents c.put_ends-2.new.set.extents c.args.copies.now.extents c.args.live.now c.args.meta.now c.args.dev c.args.units
    c.new-set.ensures c.in_ok-put_ends.ensures (λ u. c.in_ok-put_units.ensures u ∙ ap (λ (es : List Extent). has_unit c.put_ends.new.set.extents u || (has_unit es u && nat_lt u c.args.units)) c.extents.ensures.extents) c.in_ok-put_ends-2.ensures)
    c.count.ensures
