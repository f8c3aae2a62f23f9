use Rattle.std.proofs.Common.{All, List, refl, subst}
use Rattle.std.proofs.lemmas.List.{take_all}
use Rattle.std.proofs.lemmas.List.Elements.{All-more}
use Rattle.zr_chain.specs.declared.visit.Visited.{Visited}
use Rattle.zr_chain.specs.declared.visit.Visited.TheVariants.{Hop}
use Rattle.zr_space.specs.Freeing.{IsFit}
use Rattle.zr_space.proofs.space.Space.are_fit.Goals as goal

pub loop-v-preserved : goal.loop-v-preserved
loop-v-preserved c =
    All-more (IsFit c.args.self.now) c.args.visits.now c.loop-v.v-index (Hop 0 (record { start = 0; len = 0 })) c.loop-v-test.true c.loop-v.invariant (c.if-not-is_fit.ensures.0 refl)

pub returns : goal.returns
returns c = (λ _. subst (λ (vs : List Visited). All (IsFit c.args.self.now) vs) (take_all c.loop-v.v-index c.args.visits.now c.loop-v-test.false) c.loop-v.invariant, λ _. refl)
