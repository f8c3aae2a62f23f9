use Rattle.std.proofs.Common.{◌≡◌, ◌∙◌, ◌∷◌, [], List, arith, sym, ap, subst}
use Rattle.std.proofs.lemmas.Grind.{common_steps}
use Rattle.zr_base.specs.declared.space.DevRow.{DevRow}
use Rattle.zr_rules.specs.Places.{is_leaving}
use Rattle.zr_rules.specs.Space.{Space}
use Rattle.zr_chain.specs.declared.visit.Visited.{Visited}
use Rattle.zr_space.specs.Views.{space_of}
use Rattle.zr_space.specs.FreeVisits.{CanFree, FreesVisits, HaveSpare, all_units}
use Rattle.zr_space.proofs.FreeLeaving.{copies_apart}
use Rattle.zr_space.proofs.FreeSteps.{can_first, can_rest, frees_more, frees_none}
use Rattle.zr_space.proofs.visits.free_visits.Goals as goal

pub free_visit-requires-clause-can : goal.free_visit-requires-clause-can
free_visit-requires-clause-can c =
    let split : c.in-Some.first.now ∷ c.in-Some.tail.now ≡ c.loop-first.rest.now = grind (arith, common_steps) in
    can_first _ c.in-Some.first.now c.in-Some.tail.now (subst (λ (vs : List Visited). CanFree (space_of c.args.whole.now c.loop-first.devs.items) vs) (sym split) c.loop-first.invariant.can)

pub free_visit-requires-clause-room : goal.free_visit-requires-clause-room
free_visit-requires-clause-room c = λ d lt.
    let split : c.in-Some.first.now ∷ c.in-Some.tail.now ≡ c.loop-first.rest.now = grind (arith, common_steps) in
    let units = ap all_units split in
    let had = c.loop-first.invariant.room d lt in ((let one = had.0 in omega (arith, one, units)), λ off. let two = had.1 off in omega (arith, two, units))

pub free_visit-requires-clause-stays : goal.free_visit-requires-clause-stays
free_visit-requires-clause-stays c = λ kept d. ap (λ (r : DevRow). is_leaving r.state) (c.loop-first.invariant.rows d) ∙ c.requires.stays kept d

pub loop-first-preserved : goal.loop-first-preserved
loop-first-preserved c =
    let whole = c.args.whole.now in
    let s : Space = space_of whole c.loop-first.devs.items in
    let m : Space = space_of whole c.free_visit.new.devs.items in
    let split : c.in-Some.first.now ∷ c.in-Some.tail.now ≡ c.loop-first.rest.now = grind (arith, common_steps) in
    let can : CanFree s (c.in-Some.first.now ∷ c.in-Some.tail.now) = subst (λ (vs : List Visited). CanFree s vs) (sym split) c.loop-first.invariant.can in
    record {
      space = c.free_visit.ensures.space;
      can = can_rest c.args.kept s m c.in-Some.first.now c.in-Some.tail.now can c.free_visit.ensures.frees (copies_apart whole c.loop-first.slabs c.loop-first.devs.items c.in-Some.first.now c.loop-first.invariant.space (can_first s c.in-Some.first.now c.in-Some.tail.now can));
      room = c.free_visit.ensures.room (all_units c.in-Some.tail.now) (subst (λ n. HaveSpare c.loop-first.devs.items n) (sym (ap all_units split)) c.loop-first.invariant.room);
      rows = λ d. c.free_visit.ensures.rows d ∙ c.loop-first.invariant.rows d;
      frees = λ t rest. c.loop-first.invariant.frees t (subst (λ (vs : List Visited). FreesVisits c.args.kept s t vs) split (frees_more c.args.kept s m t c.in-Some.first.now c.in-Some.tail.now c.free_visit.ensures.frees rest));
    }

pub returns-clause-frees : goal.returns-clause-frees
returns-clause-frees c =
    let s : Space = space_of c.args.whole.now c.loop-first.devs.items in
    let none : c.loop-first.rest.now ≡ [] = grind (arith, common_steps) in
    c.loop-first.invariant.frees s (subst (λ (vs : List Visited). FreesVisits c.args.kept s s vs) (sym none) (frees_none c.args.kept s))
