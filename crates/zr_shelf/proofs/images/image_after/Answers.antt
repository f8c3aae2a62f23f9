use Rattle.std.proofs.Common.{◌≡◌, List, ℕ, take, position, nat_lt, sym, ◌∙◌, ap, subst, arith}
use Rattle.zr_shelf.specs.Moments.{World}
use Rattle.zr_shelf.specs.Memory.{start, run, next, take_on, calls_until, FitsIn, IsLawful}
use Rattle.zr_shelf.specs.Choices.{IsShown}
use Rattle.zr_shelf.specs.declared.memory.Call.{Call}
use Rattle.zr_shelf.proofs.Sound.{shown_on, sizes_shown, lawful_until, fits_at, good_take, good_start, run_more}
use Rattle.zr_shelf.proofs.images.image_after.Goals as goal

-- the calls that are made again are lawful
lawful : (input : List ℕ) (moment : ℕ) (calls read front : List Call) → IsLawful (start input) calls → read ≡ calls → front ≡ calls_until moment read → IsLawful (start input) front
lawful input moment calls read front law is front_is =
    subst (IsLawful (start input)) (sym (front_is ∙ ap (λ (l : List Call). calls_until moment l) is))
    (lawful_until (start input) (position (λ (c : Call). nat_lt moment c.moment) calls) calls law)

pub step-requires-clause-sizes : goal.step-requires-clause-sizes
step-requires-clause-sizes c =
    let input = c.args.history.now.input.items in
    let calls = c.calls_until-calls.result.now in
    let law = lawful input c.args.moment c.args.history.now.calls.items c.deref.result.now calls c.requires c.deref.ensures.value c.calls_until-calls.ensures in
    sizes_shown c.args.choice.now (run (start input) (take c.loop-call.call-index calls)).now c.loop-call.seen.items c.loop-call.image.items c.loop-call.place (good_take (start input) calls c.loop-call.call-index law (good_start input)) c.loop-call.invariant.shown

pub step-requires-clause-fits : goal.step-requires-clause-fits
step-requires-clause-fits c =
    let input = c.args.history.now.input.items in
    let calls = c.calls_until-calls.result.now in
    let law = lawful input c.args.moment c.args.history.now.calls.items c.deref.result.now calls c.requires c.deref.ensures.value c.calls_until-calls.ensures in
    let fits = fits_at (start input) calls c.loop-call.call-index c.call-item.result law c.loop-call-test.true in
    subst (λ (d : List (List ℕ)). FitsIn d c.call-item.result.deed) (sym c.loop-call.invariant.shown.bytes)
    (subst (λ (x : Call). FitsIn (run (start input) (take c.loop-call.call-index calls)).now.seen x.deed) (sym c.call-item.is) fits)

pub loop-call-preserved : goal.loop-call-preserved
loop-call-preserved c =
    let choice = c.args.choice.now in
    let input = c.args.history.now.input.items in
    let calls = c.calls_until-calls.result.now in
    let before = run (start input) (take c.loop-call.call-index calls) in
    let call = c.call-item.result in
    let more = run_more (start input) calls c.loop-call.call-index call c.loop-call-test.true ∙ ap (λ (x : Call). next before x) (sym c.call-item.is) in
    record {
      places = omega (arith, c.step.ensures.place, c.loop-call.invariant.places);
      shown = subst (λ (w : World). IsShown choice w.now c.step.new.seen.items c.step.new.image.items c.step.new.place) (sym more)
          (c.in_ok-step.ensures.shown (take_on before call.since).now (shown_on choice before call.since c.loop-call.seen.items c.loop-call.image.items c.loop-call.place c.loop-call.invariant.shown));
    }
