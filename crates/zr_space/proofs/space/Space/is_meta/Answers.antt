use Rattle.std.proofs.Common.{◌≡◌, ◌∙◌, inl, inr, ◌<◌, List, length, arith, subst, sym, ap, refl}
use Rattle.std.proofs.lemmas.List.{length-map}
use Rattle.zr_base.specs.declared.space.Extent.{Extent}
use Rattle.zr_base.specs.Extents.{HasAll}
use Rattle.zr_rules.specs.Space.{Space}
use Rattle.zr_metaslab.specs.Devices.{extent_of}
use Rattle.zr_space.specs.Drops.{IsMeta}
use Rattle.zr_space.specs.Views.{Kept, part_in, kept_of, space_of}
use Rattle.zr_space.proofs.Views.{kept_read}
use Rattle.zr_space.proofs.Drops.{never}
use Rattle.zr_space.proofs.InUse.{meta_covered, saved_covered, covers_meta}
use Rattle.zr_space.proofs.space.Space.is_meta.Goals as goal

pub returns-then-covers : goal.returns-then-covers
returns-then-covers c =
    let devs = c.self.inside.devs.items in
    let a = c.args.a in
    let k : Kept = record { row = c.device.inside.row; uses = c.device.inside.units; moves = c.device.inside.moves } in
    let count : c.devices.result ≡ length (space_of c.self.inside.whole devs).parts.devs = c.devices.ensures ∙ ap (λ (s : Space). length s.parts.devs) (sym c.self.view_is) in
    let there : a.dev < length devs = let e = length-map devs part_in in omega (arith, count, e) in
    let is : k ≡ kept_of devs a.dev = c.device.view_is ∙ kept_read devs a.dev c.index-device.result.now there c.index-device.ensures in
    let meta : c.meta.result.now.extents ≡ (kept_of devs a.dev).uses.meta = c.meta.ensures ∙ ap (λ (z : Kept). z.uses.meta) is in
    let all : HasAll c.meta.result.now.extents (extent_of a) = subst (λ (e : Extent). HasAll c.meta.result.now.extents e) c.extent_of-e.ensures (c.if-covers.ensures.0 refl) in (
      λ yes. subst (λ (s : Space). IsMeta s a) c.self.view_is
          (meta_covered c.self.inside.whole c.self.inside.slabs devs a c.self.invariant there (omega arith) (subst (λ (es : List Extent). HasAll es (extent_of a)) meta all)),
      λ is_meta. refl,
    )

pub returns : goal.returns
returns c =
    let devs = c.self.inside.devs.items in
    let a = c.args.a in
    let k : Kept = record { row = c.device.inside.row; uses = c.device.inside.units; moves = c.device.inside.moves } in
    let count : c.devices.result ≡ length (space_of c.self.inside.whole devs).parts.devs = c.devices.ensures ∙ ap (λ (s : Space). length s.parts.devs) (sym c.self.view_is) in
    let there : a.dev < length devs = let e = length-map devs part_in in omega (arith, count, e) in
    let is : k ≡ kept_of devs a.dev = c.device.view_is ∙ kept_read devs a.dev c.index-device.result.now there c.index-device.ensures in
    let meta : c.meta.result.now.extents ≡ (kept_of devs a.dev).uses.meta = c.meta.ensures ∙ ap (λ (z : Kept). z.uses.meta) is in
    let saved : c.saved.result.now.extents ≡ (kept_of devs a.dev).uses.saved = c.saved.ensures ∙ ap (λ (z : Kept). z.uses.saved) is in (
      λ yes.
          let all : HasAll c.saved.result.now.extents (extent_of a) = subst (λ (e : Extent). HasAll c.saved.result.now.extents e) c.extent_of-e.ensures (c.covers-2.ensures.0 yes) in
          subst (λ (s : Space). IsMeta s a) c.self.view_is
          (saved_covered c.self.inside.whole c.self.inside.slabs devs a c.self.invariant there (omega arith) (subst (λ (es : List Extent). HasAll es (extent_of a)) saved all)),
      λ is_meta.
          let all = covers_meta c.self.inside.whole c.self.inside.slabs devs a c.self.invariant there (omega arith) (subst (λ (s : Space). IsMeta s a) (sym c.self.view_is) is_meta) in
          elim all [
            | inl has ↦ absurd (never (c.if-covers.ensures.1 (subst (λ (e : Extent). HasAll c.meta.result.now.extents e) (sym c.extent_of-e.ensures) (subst (λ (es : List Extent). HasAll es (extent_of a)) (sym meta) has))))
            | inr has ↦ c.covers-2.ensures.1 (subst (λ (e : Extent). HasAll c.saved.result.now.extents e) (sym c.extent_of-e.ensures) (subst (λ (es : List Extent). HasAll es (extent_of a)) (sym saved) has))
          ],
    )
