use Rattle.std.proofs.Common.{◌≡◌, false, true, All, List, refl, sym, subst}
use Rattle.std.proofs.lemmas.List.{take_all}
use Rattle.std.proofs.lemmas.List.Elements.{All-more}
use Rattle.zr_rules.specs.Space.{Space}
use Rattle.zr_chain.specs.declared.visit.Visited.{Visited}
use Rattle.zr_chain.specs.declared.visit.Visited.TheVariants.{Hop}
use Rattle.zr_space.specs.Freeing.{RoomAt, HaveRoom}
use Rattle.zr_space.proofs.Freeing.{have_all, have_met}
use Rattle.zr_space.proofs.space.Space.have_room.Goals as goal

false_true : false ≡ true → ⊥
false_true e = cc

pub loop-v-preserved : goal.loop-v-preserved
loop-v-preserved c =
    All-more (RoomAt c.args.self.now c.args.visits.now) c.args.visits.now c.loop-v.v-index (Hop 0 (record { start = 0; len = 0 })) c.loop-v-test.true c.loop-v.invariant (c.if-not-has_room_at.ensures.0 refl)

pub returns-then-not-has_room_at : goal.returns-then-not-has_room_at
returns-then-not-has_room_at c = (
  λ yes. absurd (false_true yes),
  λ room. absurd (false_true (c.if-not-has_room_at.ensures.1 (have_met c.args.self.now c.args.visits.now _ (c.requires c.loop-v.v-index _ c.loop-v-test.true) room))),
)

pub returns : goal.returns
returns c = (
  λ _. subst (λ (s : Space). HaveRoom s c.args.visits.now) c.self.view_is
      (have_all c.self.inside.whole c.self.inside.slabs c.self.inside.devs.items c.self.invariant c.args.visits.now
      (subst (λ (s : Space). All (RoomAt s c.args.visits.now) c.args.visits.now) (sym c.self.view_is)
      (subst (λ (vs : List Visited). All (RoomAt c.args.self.now c.args.visits.now) vs) (take_all c.loop-v.v-index c.args.visits.now c.loop-v-test.false) c.loop-v.invariant))),
  λ _. refl,
)
