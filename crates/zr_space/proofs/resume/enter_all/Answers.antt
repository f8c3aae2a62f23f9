use Rattle.std.proofs.Common.{◌≡◌, ◌∷◌, [], ℕ, List, true, false, arith, sym, subst}
use Rattle.std.proofs.lemmas.Grind.{common_steps}
use Rattle.zr_base.specs.declared.space.Extent.{Extent}
use Rattle.zr_space.proofs.Resuming.{IsEntering, all_entered, enters_more, next_can, starts_entering}
use Rattle.zr_space.proofs.resume.enter_all.Goals as goal

pub loop-first-init : goal.loop-first-init
loop-first-init c = starts_entering c.args.places.now c.args.devs.now.items c.requires.none c.requires.lawful

pub loop-first-preserved : goal.loop-first-preserved
loop-first-preserved c =
    let split : c.in-Some.first.now ∷ c.in-Some.tail.now ≡ c.loop-first.rest.now = grind (arith, common_steps) in
    enters_more c.args.places.now c.in-Some.first.now.0 c.in-Some.first.now.1 c.in-Some.tail.now c.args.devs.now.items c.loop-first.devs.items
    (subst (λ (ps : List (ℕ × Extent)). IsEntering c.args.places.now ps c.args.devs.now.items c.loop-first.devs.items) (sym split) c.loop-first.invariant)
    c.enter.new.devs.items (c.in_ok-enter.ensures.yes c.if-not-branch.false)

pub returns-clause-yes : goal.returns-clause-yes
returns-clause-yes c = λ _.
    let none : c.loop-first.rest.now ≡ [] = grind (arith, common_steps) in
    all_entered c.args.places.now c.loop-first.rest.now c.args.devs.now.items c.loop-first.devs.items c.loop-first.invariant none

pub returns-clause-no : goal.returns-clause-no
returns-clause-no c = λ is. absurd (true_false is)
  where
    true_false : true ≡ false → ⊥
    true_false e = cc

pub returns-then-not-branch-clause-no : goal.returns-then-not-branch-clause-no
returns-then-not-branch-clause-no c = λ _ can.
    let split : c.in-Some.first.now ∷ c.in-Some.tail.now ≡ c.loop-first.rest.now = grind (arith, common_steps) in
    c.in_ok-enter.ensures.no c.if-not-branch.true
    (next_can c.args.places.now c.in-Some.first.now.0 c.in-Some.first.now.1 c.in-Some.tail.now c.args.devs.now.items c.loop-first.devs.items
    (subst (λ (ps : List (ℕ × Extent)). IsEntering c.args.places.now ps c.args.devs.now.items c.loop-first.devs.items) (sym split) c.loop-first.invariant) can)
