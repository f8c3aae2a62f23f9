use Rattle.std.proofs.Common.{◌≡◌, ◌<◌, List, refl, sym, subst, arith}
use Rattle.std.specs.Prelude.{Contains}
use Rattle.zr_label.specs.declared.root.Uber.{Uber}
use Rattle.zr_image.specs.Current.{IsShownAt}
use Rattle.zr_slots.proofs.Passing.{below_next}
use Rattle.zr_slots.proofs.Shown.{roots_read, shown_in}
use Rattle.zr_slots.proofs.unknown.is_reached.Goals as goal

pub returns-then-reaches-clause-yes : goal.returns-then-reaches-clause-yes
returns-then-reaches-clause-yes c = λ t.
    let h = c.if-reaches.ensures.yes refl in
    let read = roots_read c.args.seen.now c.loop-slot.slot c.index-seen-slot.result c.as_slice.result.now c.loop-slot-test.true c.index-seen-slot.is c.as_slice.ensures in
    (h.0, (c.loop-slot.slot, subst (λ (us : List Uber). Contains us h.0) read h.1), h.2, h.3)

pub loop-slot-preserved : goal.loop-slot-preserved
loop-slot-preserved c =
    let read = roots_read c.args.seen.now c.loop-slot.slot c.index-seen-slot.result c.as_slice.result.now c.loop-slot-test.true c.index-seen-slot.is c.as_slice.ensures in
    below_next (λ k. (u : Uber) → IsShownAt c.args.seen.now k u → u.guid ≡ c.args.guid → u.txg < c.args.txg) c.loop-slot.slot c.loop-slot.invariant
    (λ u h is. c.if-reaches.ensures.no refl u (subst (λ (us : List Uber). Contains us u) (sym read) h) is)

pub returns-clause-no : goal.returns-clause-no
returns-clause-no c = λ t u h is.
    let in_list = shown_in c.args.seen.now h.0 u h.1 in
    let past = c.loop-slot-test.false in
    c.loop-slot.invariant h.0 (omega (arith, in_list, past)) u h.1 is
