use Rattle.std.proofs.Common.{◌≡◌, refl, true, false, ◌∙◌, ◌<◌, List, map, length, arith, subst, sym, ap}
use Rattle.std.proofs.lemmas.List.{length-map}
use Rattle.zr_base.specs.declared.space.Extent.{Extent}
use Rattle.zr_base.specs.Extents.{HasAll, HasNone}
use Rattle.zr_rules.specs.Space.{Space}
use Rattle.zr_space.specs.Freeing.{IsInUse}
use Rattle.zr_space.specs.Views.{Kept, part_in, kept_of}
use Rattle.zr_space.proofs.Views.{kept_read}
use Rattle.zr_space.proofs.Freeing.{in_use, use_held, use_unkept, use_uncopied}
use Rattle.zr_space.proofs.space.Space.is_in_use.Goals as goal

never : false ≡ true → ⊥
never e = cc

pub returns-then-not-covers : goal.returns-then-not-covers
returns-then-not-covers c =
    let devs = c.self.inside.devs.items in
    let d = c.args.dev in
    let k : Kept = record { row = c.device.inside.row; uses = c.device.inside.units; moves = c.device.inside.moves } in
    let known : d < length (map part_in devs) = subst (λ (s : Space). d < length s.parts.devs) (sym c.self.view_is) c.requires in
    let there : d < length devs = let e = length-map devs part_in in omega (arith, known, e) in
    let is : k ≡ kept_of devs d = c.device.view_is ∙ kept_read devs d c.index-device.result.now there c.index-device.ensures in
    let held : c.held.result.now.extents ≡ (kept_of devs d).uses.held = c.held.ensures ∙ ap (λ (z : Kept). z.uses.held) is in (
      λ yes. absurd (never yes),
      λ used.
          let all = use_held c.self.inside.whole c.self.inside.slabs devs c.self.invariant d c.args.e (subst (λ (s : Space). IsInUse s d c.args.e) (sym c.self.view_is) used) in
          absurd (never (c.if-not-covers.ensures.1 (subst (λ (es : List Extent). HasAll es c.args.e) (sym held) all))),
    )

pub returns-then-not-is_apart : goal.returns-then-not-is_apart
returns-then-not-is_apart c =
    let devs = c.self.inside.devs.items in
    let d = c.args.dev in
    let k : Kept = record { row = c.device.inside.row; uses = c.device.inside.units; moves = c.device.inside.moves } in
    let known : d < length (map part_in devs) = subst (λ (s : Space). d < length s.parts.devs) (sym c.self.view_is) c.requires in
    let there : d < length devs = let e = length-map devs part_in in omega (arith, known, e) in
    let is : k ≡ kept_of devs d = c.device.view_is ∙ kept_read devs d c.index-device.result.now there c.index-device.ensures in
    let kept : c.kept.result.now.extents ≡ (kept_of devs d).uses.kept = c.kept.ensures ∙ ap (λ (z : Kept). z.uses.kept) is in (
      λ yes. absurd (never yes),
      λ used.
          let none = use_unkept c.self.inside.whole c.self.inside.slabs devs c.self.invariant d c.args.e (subst (λ (s : Space). IsInUse s d c.args.e) (sym c.self.view_is) used) in
          absurd (never (c.if-not-is_apart.ensures.1 (subst (λ (es : List Extent). HasNone es c.args.e) (sym kept) none))),
    )

pub returns : goal.returns
returns c =
    let devs = c.self.inside.devs.items in
    let d = c.args.dev in
    let k : Kept = record { row = c.device.inside.row; uses = c.device.inside.units; moves = c.device.inside.moves } in
    let known : d < length (map part_in devs) = subst (λ (s : Space). d < length s.parts.devs) (sym c.self.view_is) c.requires in
    let there : d < length devs = let e = length-map devs part_in in omega (arith, known, e) in
    let is : k ≡ kept_of devs d = c.device.view_is ∙ kept_read devs d c.index-device.result.now there c.index-device.ensures in
    let held : c.held.result.now.extents ≡ (kept_of devs d).uses.held = c.held.ensures ∙ ap (λ (z : Kept). z.uses.held) is in
    let kept : c.kept.result.now.extents ≡ (kept_of devs d).uses.kept = c.kept.ensures ∙ ap (λ (z : Kept). z.uses.kept) is in
    let copies : c.copies.result.now.extents ≡ (kept_of devs d).uses.copies = c.copies.ensures ∙ ap (λ (z : Kept). z.uses.copies) is in (
      λ yes. subst (λ (s : Space). IsInUse s d c.args.e) c.self.view_is
          (in_use c.self.inside.whole c.self.inside.slabs devs c.self.invariant d c.args.e (subst (λ (es : List Extent). HasAll es c.args.e) held (c.if-not-covers.ensures.0 refl)) (subst (λ (es : List Extent). HasNone es c.args.e) kept (c.if-not-is_apart.ensures.0 refl)) (subst (λ (es : List Extent). HasNone es c.args.e) copies (c.is_apart-2.ensures.0 yes))),
      λ used.
          let none = use_uncopied c.self.inside.whole c.self.inside.slabs devs c.self.invariant d c.args.e (subst (λ (s : Space). IsInUse s d c.args.e) (sym c.self.view_is) used) in
          c.is_apart-2.ensures.1 (subst (λ (es : List Extent). HasNone es c.args.e) (sym copies) none),
    )
