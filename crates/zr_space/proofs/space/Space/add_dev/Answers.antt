use Rattle.std.proofs.Common.{◌≡◌, ℕ, ◌∙◌, ◌<◌, ◌++◌, ◌∷◌, [], sym, arith, length, List, map, ap, subst}
use Rattle.std.proofs.lemmas.List.{length-map}
use Rattle.zr_base.specs.declared.space.Extent.{Extent}
use Rattle.zr_metaslab.specs.Devices as slab
use Rattle.zr_rules.specs.Space.{opened_of}
use Rattle.zr_rules.specs.Steps.{AddsDevice}
use Rattle.zr_space.specs.Views.{Kept, part_in, space_of, fresh_device, IsSpace}
use Rattle.zr_space.proofs.Adding.{IsAdded, added_space, adds, opened_still}
use Rattle.zr_space.proofs.space.Space.add_dev.Goals as goal

pub invariant_of-self-2 : goal.invariant_of-self-2
invariant_of-self-2 c =
    let devs : List Kept = c.self.inside.devs.items in
    let items : c.push_reserved.new.devs.items ≡ devs ++ fresh_device c.args.units c.args.txg c.new_device.result.uses.spare ∷ [] = c.push_reserved.ensures ∙ (ap (λ (xs : List Kept). xs ++ c.new_device.result ∷ []) c.reserve.ensures.items ∙ ap (λ (k : Kept). devs ++ k ∷ []) c.new_device.ensures) in
    let few : length devs < 32 = let l = length-map devs part_in in let f : length (map part_in devs) < 32 = subst (λ s. length s.parts.devs < 32) (sym c.self.view_is) c.requires.few in omega (arith, l, f) in
    let len : c.len-dev.result ≡ length devs = let e = c.len-dev.ensures in let o = c.self.inside.devs.ok.0 in omega (arith, e, o) in
    let added : IsAdded c.self.inside.whole c.self.inside.slabs c.add_dev.new.self devs c.args.units = record {
      space = c.self.invariant;
      few = few;
      small = c.requires.small;
      slabs = subst (λ (es : List Extent). slab.AddsDevice c.self.inside.slabs c.add_dev.new.self (length devs) c.args.units es) c.new-none.ensures
          (subst (λ n. slab.AddsDevice c.self.inside.slabs c.add_dev.new.self n c.args.units c.new-none.result.extents) len c.in_ok-add_dev.ensures.ok);
    } in
    subst (λ (xs : List Kept). IsSpace c.self.inside.whole c.add_dev.new.self xs) (sym items) (added_space c.self.inside.whole c.self.inside.slabs c.add_dev.new.self devs c.args.units c.args.txg c.new_device.result.uses.spare added)

pub returns-clause-ok : goal.returns-clause-ok
returns-clause-ok c =
    let devs : List Kept = c.self.inside.devs.items in
    let items : c.push_reserved.new.devs.items ≡ devs ++ fresh_device c.args.units c.args.txg c.new_device.result.uses.spare ∷ [] = c.push_reserved.ensures ∙ (ap (λ (xs : List Kept). xs ++ c.new_device.result ∷ []) c.reserve.ensures.items ∙ ap (λ (k : Kept). devs ++ k ∷ []) c.new_device.ensures) in
    let few : length devs < 32 = let l = length-map devs part_in in let f : length (map part_in devs) < 32 = subst (λ s. length s.parts.devs < 32) (sym c.self.view_is) c.requires.few in omega (arith, l, f) in
    let len : c.len-dev.result ≡ length devs = let e = c.len-dev.ensures in let o = c.self.inside.devs.ok.0 in omega (arith, e, o) in
    let added : IsAdded c.self.inside.whole c.self.inside.slabs c.add_dev.new.self devs c.args.units = record {
      space = c.self.invariant;
      few = few;
      small = c.requires.small;
      slabs = subst (λ (es : List Extent). slab.AddsDevice c.self.inside.slabs c.add_dev.new.self (length devs) c.args.units es) c.new-none.ensures
          (subst (λ n. slab.AddsDevice c.self.inside.slabs c.add_dev.new.self n c.args.units c.new-none.result.extents) len c.in_ok-add_dev.ensures.ok);
    } in
    rw (← c.self.view_is)
    (subst (λ (xs : List Kept). AddsDevice (space_of c.self.inside.whole devs) (space_of c.self.inside.whole xs) c.args.units c.args.txg) (sym items) (adds c.self.inside.whole c.self.inside.slabs c.add_dev.new.self devs c.args.units c.args.txg c.new_device.result.uses.spare added))

pub returns-clause-opened : goal.returns-clause-opened
returns-clause-opened c =
    let devs : List Kept = c.self.inside.devs.items in
    let items : c.push_reserved.new.devs.items ≡ devs ++ fresh_device c.args.units c.args.txg c.new_device.result.uses.spare ∷ [] = c.push_reserved.ensures ∙ (ap (λ (xs : List Kept). xs ++ c.new_device.result ∷ []) c.reserve.ensures.items ∙ ap (λ (k : Kept). devs ++ k ∷ []) c.new_device.ensures) in
    rw (← c.self.view_is)
    (subst (λ (xs : List Kept). (d : ℕ) → opened_of (space_of c.self.inside.whole xs) d ≡ opened_of (space_of c.self.inside.whole devs) d) (sym items) (opened_still c.self.inside.whole devs c.args.units c.args.txg c.new_device.result.uses.spare))
