use Rattle.std.proofs.Common.{◌≡◌, ◌∙◌, ◌<◌, ℕ, [], ◌∷◌, length, sym, ap, subst, arith}
use Rattle.zr_base.specs.Extents.{IsMaximal}
use Rattle.zr_rules.specs.Space.{Space}
use Rattle.zr_space.specs.Saved.{IsSavedMeta}
use Rattle.zr_space.specs.Views.{Kept, kept_of}
use Rattle.zr_space.proofs.Views.{kept_read}
use Rattle.zr_space.proofs.SavedRuns.{none_from, front_saved, first_some}
use Rattle.zr_space.proofs.space.Space.lowest_saved.Goals as goal

pub returns-in-Some-clause-some : goal.returns-in-Some-clause-some
returns-in-Some-clause-some c =
    let devs = c.self.inside.devs.items in
    let dev = c.loop-dev.dev in
    let a = c.front_of.result in
    let k : Kept = record { row = c.device.inside.row; uses = c.device.inside.units; moves = c.device.inside.moves } in
    let there : dev < length devs = let e = c.loop-dev.invariant.end in let t = c.loop-dev-test.true in omega (arith, e, t) in
    let is : k ≡ kept_of devs dev = c.device.view_is ∙ kept_read devs dev c.index-device.result.now there c.index-device.ensures in
    let saved : c.extents.result.now ≡ (kept_of devs dev).uses.saved = c.extents.ensures.extents ∙ (c.saved.ensures ∙ ap (λ (z : Kept). z.uses.saved) is) in
    let at : a.dev ≡ dev = c.front_of.ensures.dev in
    let cases = c.in-Some.ensures.cases.0 in
    let first : (kept_of devs a.dev).uses.saved ≡ c.in-Some.e.now ∷ c.in-Some._rest.now = ap (λ (d : ℕ). (kept_of devs d).uses.saved) at ∙ (sym saved ∙ cases) in
    let some : 0 < c.in-Some.e.now.len = first_some c.extents.result.now c.in-Some.e.now c.in-Some._rest.now (subst IsMaximal (sym c.extents.ensures.extents) c.extents.ensures.maximal) cases in
    subst (λ (s : Space). IsSavedMeta s a) c.self.view_is
    (front_saved c.self.inside.whole c.self.inside.slabs devs a c.in-Some.e.now c.in-Some._rest.now c.self.invariant (omega (arith, there, at)) first c.front_of.ensures.start (c.front_of.ensures.some some) c.front_of.ensures.most)

pub returns-clause-none : goal.returns-clause-none
returns-clause-none c =
    let devs = c.self.inside.devs.items in
    let past = c.loop-dev-test.false in
    let end = c.loop-dev.invariant.end in
    subst (λ (s : Space). s.saved_meta ≡ []) c.self.view_is (none_from 0 devs (λ d lt. c.loop-dev.invariant.none d (omega (arith, lt, past, end))))
