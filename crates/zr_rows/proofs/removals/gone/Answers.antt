use Rattle.std.proofs.Common.{◌≡◌, ◌∙◌, ◌||◌, ◌++◌, ◌∷◌, [], List, ap, sym}
use Rattle.zr_base.specs.declared.space.Extent.{Extent}
use Rattle.zr_base.specs.declared.space.Entry.{Entry}
use Rattle.zr_base.specs.Extents.{has_unit, in_extent}
use Rattle.zr_indirect.proofs.Folding.{one_counts_zero}
use Rattle.zr_indirect.proofs.Entries.{in_first_units}
use Rattle.zr_rows.proofs.removals.gone.Goals as goal

pub gone-requires : goal.gone-requires
gone-requires c =
    let e : Entry = record { src = 0; dev = 1; dst = 100; len = 10 } in
    let three : Extent = record { start = 0; len = 3 } in
    one_counts_zero c.push.new.self.entries c.in_ok-counts.counts.items c.add.new.self.extents e
    (c.in_ok-push.ensures.ok ∙ ap (λ (es : List Entry). es ++ e ∷ []) c.new-map.ensures)
    c.in_ok-counts.ensures.items
    (λ u has.
    let members : has_unit c.add.new.self.extents u ≡ in_extent three u =
    c.in_ok-add.ensures.ok.members u ∙ (ap (λ (es : List Extent). has_unit es u || in_extent c.run.result u) c.new-fresh.ensures ∙ ap (λ (x : Extent). in_extent x u) c.run.ensures) in
    in_first_units u (sym members ∙ has))
