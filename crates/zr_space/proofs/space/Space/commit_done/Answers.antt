use Rattle.std.proofs.Common.{◌≡◌, ◌∙◌, ◌<◌, sym, arith, length, List, ap, subst}
use Rattle.std.proofs.lemmas.List.{length-set}
use Rattle.zr_rules.specs.Steps.{Commits}
use Rattle.zr_space.specs.Live.{IsLive}
use Rattle.zr_space.specs.Turning.{TurnsParts}
use Rattle.zr_space.specs.Drops.{IsMeta}
use Rattle.zr_space.proofs.Lives.{stays_live, stays_meta}
use Rattle.zr_space.specs.Views.{Kept, kept_of, settled, AreTurned, space_of}
use Rattle.zr_space.proofs.Views.{kept_read}
use Rattle.zr_space.proofs.Turning.{TurnedBelow}
use Rattle.zr_space.proofs.Commits.{IsNext, age_space, clear_space, settled_next, settled_all, commits, turns_parts, meta_turned, saved_turned}
use Rattle.zr_space.proofs.space.Space.commit_done.Goals as goal

pub loop-dev-preserved-then-reset : goal.loop-dev-preserved-then-reset
loop-dev-preserved-then-reset c =
    let k : Kept = record { row = c.device.inside.row; uses = c.device.inside.units; moves = c.device.inside.moves } in
    let i = c.loop-dev.invariant in
    let there : c.loop-dev.dev < length c.loop-dev.self-inside.devs.items = let e = i.end in let l = i.devices in let t = c.loop-dev-test.true in omega (arith, e, l, t) in
    let is : k ≡ kept_of c.loop-dev.self-inside.devs.items c.loop-dev.dev = c.device.view_is ∙ kept_read c.loop-dev.self-inside.devs.items c.loop-dev.dev c.index_mut-device.result.now there c.index_mut-device.ensures.value in
    let next : IsNext c.self.inside.whole c.loop-dev.self-inside.slabs c.reset.new.slabs c.loop-dev.self-inside.devs.items c.loop-dev.dev k = record { space = i.space; there = there; kept = is } in
    record {
      space = clear_space c.self.inside.whole c.loop-dev.self-inside.slabs c.reset.new.slabs c.loop-dev.self-inside.devs.items c.loop-dev.dev k next c.reset.new.self c.age.new.self c.age.ensures.aged c.reset.ensures.cleared c.reset.ensures.taken;
      whole = i.whole;
      devices = length-set c.loop-dev.self-inside.devs.items c.loop-dev.dev _ ∙ i.devices;
      end = i.end;
      so_far = settled_next c.args.reset c.self.inside.devs.items c.loop-dev.self-inside.devs.items c.loop-dev.dev k c.reset.new.self c.age.new.self there is c.age.ensures.aged (rw c.if-reset.true c.reset.ensures.cleared) i.so_far;
    }

pub loop-dev-preserved : goal.loop-dev-preserved
loop-dev-preserved c =
    let k : Kept = record { row = c.device.inside.row; uses = c.device.inside.units; moves = c.device.inside.moves } in
    let i = c.loop-dev.invariant in
    let there : c.loop-dev.dev < length c.loop-dev.self-inside.devs.items = let e = i.end in let l = i.devices in let t = c.loop-dev-test.true in omega (arith, e, l, t) in
    let is : k ≡ kept_of c.loop-dev.self-inside.devs.items c.loop-dev.dev = c.device.view_is ∙ kept_read c.loop-dev.self-inside.devs.items c.loop-dev.dev c.index_mut-device.result.now there c.index_mut-device.ensures.value in
    let next : IsNext c.self.inside.whole c.loop-dev.self-inside.slabs c.age-in-loop-dev.new.slabs c.loop-dev.self-inside.devs.items c.loop-dev.dev k = record { space = i.space; there = there; kept = is } in
    record {
      space = age_space c.self.inside.whole c.loop-dev.self-inside.slabs c.age-in-loop-dev.new.slabs c.loop-dev.self-inside.devs.items c.loop-dev.dev k next c.age-in-loop-dev.new.self c.age.new.self c.age.ensures.aged c.age-in-loop-dev.ensures.aged c.age-in-loop-dev.ensures.taken;
      whole = i.whole;
      devices = length-set c.loop-dev.self-inside.devs.items c.loop-dev.dev _ ∙ i.devices;
      end = i.end;
      so_far = settled_next c.args.reset c.self.inside.devs.items c.loop-dev.self-inside.devs.items c.loop-dev.dev k c.age-in-loop-dev.new.self c.age.new.self there is c.age.ensures.aged (rw c.if-reset.false c.age-in-loop-dev.ensures.aged) i.so_far;
    }

pub returns-clause-commits : goal.returns-clause-commits
returns-clause-commits c =
    let first : List Kept = c.self.inside.devs.items in
    let devs : List Kept = c.loop-dev.self-inside.devs.items in
    let i = c.loop-dev.invariant in
    let n : c.loop-dev.dev ≡ length devs = let e = i.end in let l = i.devices in let t = c.loop-dev-test.false in let a = c.loop-dev.auto.dev-end in omega (arith, e, l, t, a) in
    let turned : AreTurned (settled c.args.reset) first devs = settled_all c.args.reset first devs i.devices (subst (λ k. TurnedBelow (settled c.args.reset) first devs k) n i.so_far) in
    rw (← c.self.view_is)
    (subst (λ w. Commits c.args.reset (space_of c.self.inside.whole first) (space_of w devs)) (sym i.whole)
    (commits c.args.reset c.self.inside.whole c.self.inside.slabs c.loop-dev.self-inside.slabs first devs turned c.self.invariant i.space))

pub returns-clause-parts : goal.returns-clause-parts
returns-clause-parts c =
    let first : List Kept = c.self.inside.devs.items in
    let devs : List Kept = c.loop-dev.self-inside.devs.items in
    let i = c.loop-dev.invariant in
    let n : c.loop-dev.dev ≡ length devs = let e = i.end in let l = i.devices in let t = c.loop-dev-test.false in let a = c.loop-dev.auto.dev-end in omega (arith, e, l, t, a) in
    let turned : AreTurned (settled c.args.reset) first devs = settled_all c.args.reset first devs i.devices (subst (λ k. TurnedBelow (settled c.args.reset) first devs k) n i.so_far) in
    rw (← c.self.view_is)
    (subst (λ w. TurnsParts c.args.reset (space_of c.self.inside.whole first) (space_of w devs)) (sym i.whole) (turns_parts c.args.reset c.self.inside.whole first devs turned))

pub returns-clause-meta : goal.returns-clause-meta
returns-clause-meta c =
    let first : List Kept = c.self.inside.devs.items in
    let devs : List Kept = c.loop-dev.self-inside.devs.items in
    let i = c.loop-dev.invariant in
    let n : c.loop-dev.dev ≡ length devs = let e = i.end in let l = i.devices in let t = c.loop-dev-test.false in let a = c.loop-dev.auto.dev-end in omega (arith, e, l, t, a) in
    let turned : AreTurned (settled c.args.reset) first devs = settled_all c.args.reset first devs i.devices (subst (λ k. TurnedBelow (settled c.args.reset) first devs k) n i.so_far) in
    meta_turned c.args.reset 0 first devs turned ∙ ap (λ s. s.meta) c.self.view_is

pub returns-clause-saved : goal.returns-clause-saved
returns-clause-saved c =
    let first : List Kept = c.self.inside.devs.items in
    let devs : List Kept = c.loop-dev.self-inside.devs.items in
    let i = c.loop-dev.invariant in
    let n : c.loop-dev.dev ≡ length devs = let e = i.end in let l = i.devices in let t = c.loop-dev-test.false in let a = c.loop-dev.auto.dev-end in omega (arith, e, l, t, a) in
    let turned : AreTurned (settled c.args.reset) first devs = settled_all c.args.reset first devs i.devices (subst (λ k. TurnedBelow (settled c.args.reset) first devs k) n i.so_far) in
    saved_turned c.args.reset 0 first devs turned ∙ ap (λ s. s.saved_meta) c.self.view_is

pub returns-clause-live : goal.returns-clause-live
returns-clause-live c = λ a l.
    let first : List Kept = c.self.inside.devs.items in
    let devs : List Kept = c.loop-dev.self-inside.devs.items in
    let i = c.loop-dev.invariant in
    let n : c.loop-dev.dev ≡ length devs = let e = i.end in let l = i.devices in let t = c.loop-dev-test.false in let a = c.loop-dev.auto.dev-end in omega (arith, e, l, t, a) in
    let turned : AreTurned (settled c.args.reset) first devs = settled_all c.args.reset first devs i.devices (subst (λ k. TurnedBelow (settled c.args.reset) first devs k) n i.so_far) in
    let was : IsLive (space_of c.self.inside.whole first) a = subst (λ x. IsLive x a) (sym c.self.view_is) l in
    subst (λ w. IsLive (space_of w devs) a) (sym i.whole)
    (stays_live c.args.reset c.self.inside.whole c.self.inside.slabs c.loop-dev.self-inside.slabs first devs a turned c.self.invariant i.space was)

pub returns-clause-metadata : goal.returns-clause-metadata
returns-clause-metadata c = λ a l.
    let first : List Kept = c.self.inside.devs.items in
    let devs : List Kept = c.loop-dev.self-inside.devs.items in
    let i = c.loop-dev.invariant in
    let n : c.loop-dev.dev ≡ length devs = let e = i.end in let l = i.devices in let t = c.loop-dev-test.false in let a = c.loop-dev.auto.dev-end in omega (arith, e, l, t, a) in
    let turned : AreTurned (settled c.args.reset) first devs = settled_all c.args.reset first devs i.devices (subst (λ k. TurnedBelow (settled c.args.reset) first devs k) n i.so_far) in
    let was : IsMeta (space_of c.self.inside.whole first) a = subst (λ x. IsMeta x a) (sym c.self.view_is) l in
    subst (λ w. IsMeta (space_of w devs) a) (sym i.whole)
    (stays_meta c.args.reset c.self.inside.whole c.self.inside.slabs c.loop-dev.self-inside.slabs first devs a turned c.self.invariant i.space was)
