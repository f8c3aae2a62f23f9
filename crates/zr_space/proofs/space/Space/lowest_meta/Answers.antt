use Rattle.std.proofs.Common.{◌≡◌, ◌∙◌, ◌<◌, [], length, sym, ap, subst, arith}
use Rattle.std.proofs.lemmas.List.{length-map, nil_from_length}
use Rattle.zr_base.specs.Extents.{IsMaximal}
use Rattle.zr_rules.specs.Space.{Space}
use Rattle.zr_space.specs.Metadata.{HasNoMeta, IsMetaOn}
use Rattle.zr_space.specs.Views.{Kept, kept_of, part_in, space_of}
use Rattle.zr_space.proofs.Views.{kept_read}
use Rattle.zr_space.proofs.SavedRuns.{first_some}
use Rattle.zr_space.proofs.MetaRuns.{front_meta, no_meta}
use Rattle.zr_space.proofs.space.Space.lowest_meta.Goals as goal

pub returns-in-Some-clause-some : goal.returns-in-Some-clause-some
returns-in-Some-clause-some c =
    let devs = c.self.inside.devs.items in
    let dev = c.args.dev in
    let a = c.front_of.result in
    let k : Kept = record { row = c.device.inside.row; uses = c.device.inside.units; moves = c.device.inside.moves } in
    let known : dev < length (space_of c.self.inside.whole devs).parts.devs = subst (λ (s : Space). dev < length s.parts.devs) (sym c.self.view_is) c.requires in
    let there : dev < length devs = let e = length-map devs part_in in omega (arith, known, e) in
    let is : k ≡ kept_of devs dev = c.device.view_is ∙ kept_read devs dev c.index-device.result.now there c.index-device.ensures in
    let meta : c.extents.result.now ≡ (kept_of devs dev).uses.meta = c.extents.ensures.extents ∙ (c.meta.ensures ∙ ap (λ (z : Kept). z.uses.meta) is) in
    let cases = c.in-Some.ensures.cases.0 in
    let some : 0 < c.in-Some.e.now.len = first_some c.extents.result.now c.in-Some.e.now c.in-Some._rest.now (subst IsMaximal (sym c.extents.ensures.extents) c.extents.ensures.maximal) cases in
    subst (λ (s : Space). IsMetaOn s dev a) c.self.view_is
    (front_meta c.self.inside.whole c.self.inside.slabs devs dev a c.in-Some.e.now c.in-Some._rest.now c.self.invariant c.front_of.ensures.dev there (sym meta ∙ cases) c.front_of.ensures.start (c.front_of.ensures.some some) c.front_of.ensures.most)

pub returns-clause-none : goal.returns-clause-none
returns-clause-none c =
    let devs = c.self.inside.devs.items in
    let dev = c.args.dev in
    let k : Kept = record { row = c.device.inside.row; uses = c.device.inside.units; moves = c.device.inside.moves } in
    let known : dev < length (space_of c.self.inside.whole devs).parts.devs = subst (λ (s : Space). dev < length s.parts.devs) (sym c.self.view_is) c.requires in
    let there : dev < length devs = let e = length-map devs part_in in omega (arith, known, e) in
    let is : k ≡ kept_of devs dev = c.device.view_is ∙ kept_read devs dev c.index-device.result.now there c.index-device.ensures in
    let meta : c.extents.result.now ≡ (kept_of devs dev).uses.meta = c.extents.ensures.extents ∙ (c.meta.ensures ∙ ap (λ (z : Kept). z.uses.meta) is) in
    let none : c.extents.result.now ≡ [] = nil_from_length c.extents.result.now c.in_default.ensures.cases in
    subst (λ (s : Space). HasNoMeta s dev) c.self.view_is (no_meta c.self.inside.whole c.self.inside.slabs devs dev c.self.invariant (sym meta ∙ none))
