use Rattle.std.proofs.Common.{◌∙◌, ap, sym, List}
use Rattle.zr_base.specs.declared.space.Extent.{Extent}
use Rattle.zr_base.specs.Extents.{has_unit}
use Rattle.zr_indirect.specs.Mapped.{Mapped}
use Rattle.zr_indirect.proofs.Folding.{counts_zero}
use Rattle.zr_indirect.proofs.leaving.Leaving.end.Goals as goal

pub new-requires-clause-counts : goal.new-requires-clause-counts
new-requires-clause-counts c =
    let counts = c.requires.counts ∙ sym (ap (λ (m : Mapped). m.counts) c.self.view_is) in
    let marks = c.requires.marks ∙ sym (ap (λ (m : Mapped). m.fresh) c.self.view_is) in
    rw c.end-map.ensures.map (counts_zero c.self.inside.evac.entries c.args.counts.items c.args.marks.extents counts (λ u is. c.self.invariant.sources u (ap (λ (es : List Extent). has_unit es u) (sym marks) ∙ is)))
