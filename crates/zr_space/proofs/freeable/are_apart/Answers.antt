use Rattle.std.proofs.Common.{◌≡◌, ◌∷◌, false, true, List, arith, sym, subst}
use Rattle.std.proofs.lemmas.Grind.{common_steps}
use Rattle.zr_chain.specs.declared.visit.Visited.{Visited}
use Rattle.zr_space.specs.Freeing.{AreApart}
use Rattle.zr_space.proofs.Freeing.{apart_more, apart_less, apart_not}
use Rattle.zr_space.proofs.freeable.are_apart.Goals as goal

false_true : false ≡ true → ⊥
false_true e = cc

pub returns-then-is_shared_with : goal.returns-then-is_shared_with
returns-then-is_shared_with c =
    let split : c.in-Some.first.now ∷ c.in-Some.tail.now ≡ c.loop-first.rest.now = grind (arith, common_steps) in (
      λ yes. absurd (false_true yes),
      λ apart. absurd (apart_not c.in-Some.first.now c.in-Some.tail.now (sym c.if-is_shared_with.ensures) (subst (λ (vs : List Visited). AreApart vs) (sym split) (c.loop-first.invariant.part apart))),
    )

pub loop-first-preserved : goal.loop-first-preserved
loop-first-preserved c =
    let split : c.in-Some.first.now ∷ c.in-Some.tail.now ≡ c.loop-first.rest.now = grind (arith, common_steps) in
    record {
      all = λ apart. c.loop-first.invariant.all (subst (λ (vs : List Visited). AreApart vs) split (apart_more c.in-Some.first.now c.in-Some.tail.now (sym c.if-is_shared_with.ensures) apart));
      part = λ apart. apart_less c.in-Some.first.now c.in-Some.tail.now (subst (λ (vs : List Visited). AreApart vs) (sym split) (c.loop-first.invariant.part apart));
    }
