use Rattle.std.proofs.Common.{◌≡◌, ◌∙◌, ◌<◌, ℕ, map, sym, arith, length, List, ap, subst, []}
use Rattle.std.proofs.lemmas.Bool.Decides.{nat_tests}
use Rattle.std.proofs.lemmas.List.{length-set}
use Rattle.std.specs.Prelude.{nat_lt, false}
use Rattle.zr_base.specs.declared.space.CkptPart.TheVariants.{Held}
use Rattle.zr_rules.specs.Places.{is_leaving, state_of_dev}
use Rattle.zr_rules.specs.Space.{Space}
use Rattle.zr_rules.specs.Steps.{HoldsCheckpoint}
use Rattle.zr_space.specs.Views.{Kept, kept_of, IsSameKept, AreTurned, with_saved, part_in, space_of, saved_from, IsSpace}
use Rattle.zr_space.proofs.Views.{kept_read}
use Rattle.zr_space.proofs.Turning.{TurnedBelow}
use Rattle.zr_space.proofs.Holding.{IsHeldNext, held_space, nothing_saved, saved_space, saved_next, saved_all, holds}
use Rattle.zr_space.proofs.space.Space.hold.Goals as goal

pub save-requires : goal.save-requires
save-requires c =
    let k : Kept = record { row = c.device.inside.row; uses = c.device.inside.units; moves = c.device.inside.moves } in
    let i = c.loop-dev.invariant in
    let there : c.loop-dev.dev < length c.loop-dev.self-inside.devs.items = let e = i.end in let l = i.devices in let t = c.loop-dev-test.true in omega (arith, e, l, t) in
    let is : k ≡ kept_of c.loop-dev.self-inside.devs.items c.loop-dev.dev = c.device.view_is ∙ kept_read c.loop-dev.self-inside.devs.items c.loop-dev.dev c.index_mut-device.result.now there c.index_mut-device.ensures.value in
    let b : nat_lt c.loop-dev.dev c.loop-dev.dev ≡ false = grind (arith, nat_tests) in
    let same : IsSameKept (kept_of c.self.inside.devs.items c.loop-dev.dev) (kept_of c.loop-dev.self-inside.devs.items c.loop-dev.dev) = rw b at (i.so_far c.loop-dev.dev) in
    let none : saved_from 0 c.self.inside.devs.items ≡ [] = subst (λ (s : Space). s.saved_meta ≡ []) (sym c.self.view_is) c.requires.none in
    ap (λ (z : Kept). z.uses.saved) (is ∙ same) ∙ nothing_saved c.self.inside.devs.items c.loop-dev.dev none

pub loop-dev-preserved : goal.loop-dev-preserved
loop-dev-preserved c =
    let k : Kept = record { row = c.device.inside.row; uses = c.device.inside.units; moves = c.device.inside.moves } in
    let i = c.loop-dev.invariant in
    let there : c.loop-dev.dev < length c.loop-dev.self-inside.devs.items = let e = i.end in let l = i.devices in let t = c.loop-dev-test.true in omega (arith, e, l, t) in
    let is : k ≡ kept_of c.loop-dev.self-inside.devs.items c.loop-dev.dev = c.device.view_is ∙ kept_read c.loop-dev.self-inside.devs.items c.loop-dev.dev c.index_mut-device.result.now there c.index_mut-device.ensures.value in
    let b : nat_lt c.loop-dev.dev c.loop-dev.dev ≡ false = grind (arith, nat_tests) in
    let same : IsSameKept (kept_of c.self.inside.devs.items c.loop-dev.dev) (kept_of c.loop-dev.self-inside.devs.items c.loop-dev.dev) = rw b at (i.so_far c.loop-dev.dev) in
    let none : saved_from 0 c.self.inside.devs.items ≡ [] = subst (λ (s : Space). s.saved_meta ≡ []) (sym c.self.view_is) c.requires.none in
    let next : IsHeldNext c.self.inside.whole c.loop-dev.self-inside.slabs c.loop-dev.self-inside.devs.items c.loop-dev.dev k = record { space = i.space; there = there; kept = is; none = ap (λ (z : Kept). z.uses.saved) (is ∙ same) ∙ nothing_saved c.self.inside.devs.items c.loop-dev.dev none } in
    record {
      space = saved_space c.loop-dev.self-inside.slabs c.loop-dev.self-inside.devs.items c.loop-dev.dev k c.save.new.self c.save.ensures next;
      whole = i.whole;
      devices = length-set c.loop-dev.self-inside.devs.items c.loop-dev.dev _ ∙ i.devices;
      end = i.end;
      so_far = saved_next c.self.inside.devs.items c.loop-dev.self-inside.devs.items c.loop-dev.dev k c.save.new.self there is c.save.ensures i.so_far;
    }

pub invariant_of-self : goal.invariant_of-self
invariant_of-self c =
    let first : List Kept = c.self.inside.devs.items in
    let devs : List Kept = c.loop-dev.self-inside.devs.items in
    let i = c.loop-dev.invariant in
    let n : c.loop-dev.dev ≡ length devs = let e = i.end in let l = i.devices in let t = c.loop-dev-test.false in let a = c.loop-dev.auto.dev-end in omega (arith, e, l, t, a) in
    let turned : AreTurned with_saved first devs = saved_all first devs i.devices (subst (λ k. TurnedBelow with_saved first devs k) n i.so_far) in
    let stays : (d : ℕ) → is_leaving (state_of_dev (map part_in first) d) ≡ false = subst (λ (s : Space). (d : ℕ) → is_leaving (state_of_dev s.parts.devs d) ≡ false) (sym c.self.view_is) c.requires.stays in
    subst (λ w. IsSpace (record w { ckpt = Held c.args.txg }) c.loop-dev.self-inside.slabs devs) (sym i.whole) (held_space c.args.txg c.self.inside.whole c.loop-dev.self-inside.slabs first devs turned stays i.space)

pub returns : goal.returns
returns c =
    let first : List Kept = c.self.inside.devs.items in
    let devs : List Kept = c.loop-dev.self-inside.devs.items in
    let i = c.loop-dev.invariant in
    let n : c.loop-dev.dev ≡ length devs = let e = i.end in let l = i.devices in let t = c.loop-dev-test.false in let a = c.loop-dev.auto.dev-end in omega (arith, e, l, t, a) in
    let turned : AreTurned with_saved first devs = saved_all first devs i.devices (subst (λ k. TurnedBelow with_saved first devs k) n i.so_far) in
    let stays : (d : ℕ) → is_leaving (state_of_dev (map part_in first) d) ≡ false = subst (λ (s : Space). (d : ℕ) → is_leaving (state_of_dev s.parts.devs d) ≡ false) (sym c.self.view_is) c.requires.stays in
    let none : saved_from 0 first ≡ [] = subst (λ (s : Space). s.saved_meta ≡ []) (sym c.self.view_is) c.requires.none in
    rw (← c.self.view_is)
    (subst (λ w. HoldsCheckpoint (space_of c.self.inside.whole first) (space_of (record w { ckpt = Held c.args.txg }) devs) c.args.txg) (sym i.whole)
    (holds c.args.txg c.self.inside.whole c.self.inside.slabs c.loop-dev.self-inside.slabs first devs turned c.self.invariant (held_space c.args.txg c.self.inside.whole c.loop-dev.self-inside.slabs first devs turned stays i.space) none))
