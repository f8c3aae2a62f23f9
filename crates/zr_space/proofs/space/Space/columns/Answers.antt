use Rattle.std.proofs.Common.{◌≡◌, ◌∙◌, ap, ◌<◌, length, arith, subst, sym}
use Rattle.std.proofs.lemmas.List.{length-map}
use Rattle.zr_base.specs.declared.space.Extent.{Extent}
use Rattle.std.proofs.Common.{List}
use Rattle.zr_base.specs.Extents.{unit_count}
use Rattle.zr_space.specs.Views.{Kept, part_in, space_of}
use Rattle.zr_space.proofs.Views.{kept_read}
use Rattle.zr_space.proofs.Counting.{columns_are, kept_fits}
use Rattle.zr_space.proofs.space.Space.columns.Goals as goal

pub overflow_sub-result : goal.overflow_sub-result
overflow_sub-result c =
    let k : Kept = record { row = c.device.inside.row; uses = c.device.inside.units; moves = c.device.inside.moves } in
    let there : c.args.dev < length c.self.inside.devs.items = let l : c.args.dev < length (space_of c.self.inside.whole c.self.inside.devs.items).parts.devs = subst (λ s. c.args.dev < length s.parts.devs) (sym c.self.view_is) c.requires in let e = length-map c.self.inside.devs.items part_in in omega (arith, l, e) in
    let is = c.device.view_is ∙ kept_read c.self.inside.devs.items c.args.dev c.index-device.result.now there c.index-device.ensures in
    let kept : c.units-kept.result ≡ unit_count k.uses.kept = c.units-kept.ensures.units ∙ ap (λ (es : List Extent). unit_count es) c.kept.ensures in
    let fits = kept_fits c.self.inside.slabs c.self.inside.devs.items c.args.dev k c.self.invariant is in
    omega (arith, kept, fits, c.in_use.ensures)

pub returns : goal.returns
returns c =
    let k : Kept = record { row = c.device.inside.row; uses = c.device.inside.units; moves = c.device.inside.moves } in
    let there : c.args.dev < length c.self.inside.devs.items = let l : c.args.dev < length (space_of c.self.inside.whole c.self.inside.devs.items).parts.devs = subst (λ s. c.args.dev < length s.parts.devs) (sym c.self.view_is) c.requires in let e = length-map c.self.inside.devs.items part_in in omega (arith, l, e) in
    let is = c.device.view_is ∙ kept_read c.self.inside.devs.items c.args.dev c.index-device.result.now there c.index-device.ensures in
    let kept : c.units-kept.result ≡ unit_count k.uses.kept = c.units-kept.ensures.units ∙ ap (λ (es : List Extent). unit_count es) c.kept.ensures in
    let fits = kept_fits c.self.inside.slabs c.self.inside.devs.items c.args.dev k c.self.invariant is in
    rw (← c.self.view_is)
    (columns_are c.self.inside.whole c.self.inside.slabs c.self.inside.devs.items c.args.dev _ c.units-kept.result c.waiting.result c.free_units.result k c.self.invariant is (omega (arith, kept, fits, c.in_use.ensures)) kept c.waiting.ensures c.free_units.ensures)
