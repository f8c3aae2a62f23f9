use Rattle.std.proofs.Common.{◌≡◌, refl, true, false, ◌∙◌, ◌<◌, List, length, arith, subst, sym, ap}
use Rattle.std.proofs.lemmas.List.{length-map}
use Rattle.zr_base.specs.declared.space.Extent.{Extent}
use Rattle.zr_base.specs.Extents.{HasAll, HasNone}
use Rattle.zr_rules.specs.Space.{Space}
use Rattle.zr_metaslab.specs.Devices.{extent_of}
use Rattle.zr_rules.specs.Equation.{devices_in}
use Rattle.zr_space.specs.Live.{IsLive}
use Rattle.zr_space.specs.Paths.{AreInService}
use Rattle.zr_space.specs.Views.{Kept, part_in, kept_of, space_of}
use Rattle.zr_space.proofs.Views.{kept_read}
use Rattle.zr_space.proofs.InUse.{live_covered, covers_live, live_apart, live_apart_copies}
use Rattle.zr_space.proofs.space.Space.live.Goals as goal

never : false ≡ true → ⊥
never e = cc

pub returns-then-not-covers : goal.returns-then-not-covers
returns-then-not-covers c =
    let devs = c.self.inside.devs.items in
    let a = c.args.a in
    let k : Kept = record { row = c.device.inside.row; uses = c.device.inside.units; moves = c.device.inside.moves } in
    let count : c.devices.result ≡ length (space_of c.self.inside.whole devs).parts.devs = c.devices.ensures ∙ ap (λ (s : Space). length s.parts.devs) (sym c.self.view_is) in
    let there : a.dev < length devs = let e = length-map devs part_in in omega (arith, count, e) in
    let is : k ≡ kept_of devs a.dev = c.device.view_is ∙ kept_read devs a.dev c.index-device.result.now there c.index-device.ensures in
    let held : c.held.result.now.extents ≡ (kept_of devs a.dev).uses.held = c.held.ensures ∙ ap (λ (z : Kept). z.uses.held) is in (
      λ yes. absurd (never yes),
      λ live.
          let all = covers_live c.self.inside.whole c.self.inside.slabs devs a c.self.invariant there (omega arith) (subst (λ (s : Space). AreInService (devices_in s)) (sym c.self.view_is) c.requires) (subst (λ (s : Space). IsLive s a) (sym c.self.view_is) live) in
          absurd (never (c.if-not-covers.ensures.1 (subst (λ (e : Extent). HasAll c.held.result.now.extents e) (sym c.extent_of-e.ensures) (subst (λ (es : List Extent). HasAll es (extent_of a)) (sym held) all)))),
    )

pub returns-then-not-is_apart : goal.returns-then-not-is_apart
returns-then-not-is_apart c =
    let devs = c.self.inside.devs.items in
    let a = c.args.a in
    let k : Kept = record { row = c.device.inside.row; uses = c.device.inside.units; moves = c.device.inside.moves } in
    let count : c.devices.result ≡ length (space_of c.self.inside.whole devs).parts.devs = c.devices.ensures ∙ ap (λ (s : Space). length s.parts.devs) (sym c.self.view_is) in
    let there : a.dev < length devs = let e = length-map devs part_in in omega (arith, count, e) in
    let is : k ≡ kept_of devs a.dev = c.device.view_is ∙ kept_read devs a.dev c.index-device.result.now there c.index-device.ensures in
    let kept : c.kept.result.now.extents ≡ (kept_of devs a.dev).uses.kept = c.kept.ensures ∙ ap (λ (z : Kept). z.uses.kept) is in (
      λ yes. absurd (never yes),
      λ live.
          let none = live_apart c.self.inside.whole c.self.inside.slabs devs a c.self.invariant there (omega arith) (subst (λ (s : Space). AreInService (devices_in s)) (sym c.self.view_is) c.requires) (subst (λ (s : Space). IsLive s a) (sym c.self.view_is) live) in
          absurd (never (c.if-not-is_apart.ensures.1 (subst (λ (e : Extent). HasNone c.kept.result.now.extents e) (sym c.extent_of-e.ensures) (subst (λ (es : List Extent). HasNone es (extent_of a)) (sym kept) none)))),
    )

pub returns : goal.returns
returns c =
    let devs = c.self.inside.devs.items in
    let a = c.args.a in
    let k : Kept = record { row = c.device.inside.row; uses = c.device.inside.units; moves = c.device.inside.moves } in
    let count : c.devices.result ≡ length (space_of c.self.inside.whole devs).parts.devs = c.devices.ensures ∙ ap (λ (s : Space). length s.parts.devs) (sym c.self.view_is) in
    let there : a.dev < length devs = let e = length-map devs part_in in omega (arith, count, e) in
    let is : k ≡ kept_of devs a.dev = c.device.view_is ∙ kept_read devs a.dev c.index-device.result.now there c.index-device.ensures in
    let kept : c.kept.result.now.extents ≡ (kept_of devs a.dev).uses.kept = c.kept.ensures ∙ ap (λ (z : Kept). z.uses.kept) is in
    let held : c.held.result.now.extents ≡ (kept_of devs a.dev).uses.held = c.held.ensures ∙ ap (λ (z : Kept). z.uses.held) is in
    let copies : c.copies.result.now.extents ≡ (kept_of devs a.dev).uses.copies = c.copies.ensures ∙ ap (λ (z : Kept). z.uses.copies) is in (
      λ yes.
          let all : HasAll c.held.result.now.extents (extent_of a) = subst (λ (e : Extent). HasAll c.held.result.now.extents e) c.extent_of-e.ensures (c.if-not-covers.ensures.0 refl) in
          let none : HasNone c.kept.result.now.extents (extent_of a) = subst (λ (e : Extent). HasNone c.kept.result.now.extents e) c.extent_of-e.ensures (c.if-not-is_apart.ensures.0 refl) in
          let none2 : HasNone c.copies.result.now.extents (extent_of a) = subst (λ (e : Extent). HasNone c.copies.result.now.extents e) c.extent_of-e.ensures (c.is_apart-2.ensures.0 yes) in
          subst (λ (s : Space). IsLive s a) c.self.view_is
          (live_covered c.self.inside.whole c.self.inside.slabs devs a c.self.invariant there (omega arith) (subst (λ (es : List Extent). HasAll es (extent_of a)) held all) (subst (λ (es : List Extent). HasNone es (extent_of a)) kept none) (subst (λ (es : List Extent). HasNone es (extent_of a)) copies none2)),
      λ live.
          let none = live_apart_copies c.self.inside.whole c.self.inside.slabs devs a c.self.invariant there (omega arith) (subst (λ (s : Space). AreInService (devices_in s)) (sym c.self.view_is) c.requires) (subst (λ (s : Space). IsLive s a) (sym c.self.view_is) live) in
          c.is_apart-2.ensures.1 (subst (λ (e : Extent). HasNone c.copies.result.now.extents e) (sym c.extent_of-e.ensures) (subst (λ (es : List Extent). HasNone es (extent_of a)) (sym copies) none)),
    )
