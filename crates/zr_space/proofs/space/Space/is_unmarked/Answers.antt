use Rattle.std.proofs.Common.{◌≡◌, ◌∙◌, ◌<◌, List, map, length, arith, subst, sym, ap}
use Rattle.std.proofs.lemmas.List.{length-map}
use Rattle.zr_base.specs.declared.space.Extent.{Extent}
use Rattle.zr_base.specs.Extents.{HasNone}
use Rattle.zr_rules.specs.Space.{Space}
use Rattle.zr_space.specs.Freeing.{IsUnmarked}
use Rattle.zr_space.specs.Views.{Kept, part_in, kept_of}
use Rattle.zr_space.proofs.Views.{kept_read}
use Rattle.zr_space.proofs.Freeing.{none_marked, marked_none}
use Rattle.zr_space.proofs.space.Space.is_unmarked.Goals as goal

pub returns : goal.returns
returns c =
    let devs = c.self.inside.devs.items in
    let d = c.args.dev in
    let k : Kept = record { row = c.device.inside.row; uses = c.device.inside.units; moves = c.device.inside.moves } in
    let known : d < length (map part_in devs) = subst (λ (s : Space). d < length s.parts.devs) (sym c.self.view_is) c.requires in
    let there : d < length devs = let e = length-map devs part_in in omega (arith, known, e) in
    let is : k ≡ kept_of devs d = c.device.view_is ∙ kept_read devs d c.index-device.result.now there c.index-device.ensures in
    let fresh : c.device.inside.moves.fresh ≡ (kept_of devs d).moves.fresh = ap (λ (z : Kept). z.moves.fresh) is in (
      λ yes. subst (λ (s : Space). IsUnmarked s d c.args.e) c.self.view_is
          (none_marked c.self.inside.whole c.self.inside.slabs devs c.self.invariant d c.args.e (subst (λ (es : List Extent). HasNone es c.args.e) fresh (c.is_unmarked.ensures.0 yes))),
      λ none. c.is_unmarked.ensures.1
          (subst (λ (es : List Extent). HasNone es c.args.e) (sym fresh) (marked_none c.self.inside.whole c.self.inside.slabs devs c.self.invariant d c.args.e (subst (λ (s : Space). IsUnmarked s d c.args.e) (sym c.self.view_is) none))),
    )
