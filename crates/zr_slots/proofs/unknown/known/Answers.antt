use Rattle.std.proofs.Common.{refl, arith}
use Rattle.zr_label.specs.declared.root.Newer.{Newer}
use Rattle.zr_image.specs.Current.{IsUnknown}
use Rattle.zr_slots.proofs.Passing.{below_next}
use Rattle.zr_slots.proofs.Shown.{labelled_in}
use Rattle.zr_slots.proofs.unknown.known.Goals as goal

pub returns-in-Some : goal.returns-in-Some
returns-in-Some c = ((c.loop-slot.slot, c.in-Some.newer), record { here = c.in-Some.ensures; lowest = λ other y lt h. c.loop-slot.invariant other lt y h }, refl)

pub loop-slot-preserved : goal.loop-slot-preserved
loop-slot-preserved c = below_next (λ k. (x : Newer) → ¬ IsUnknown c.args.seen.now k x) c.loop-slot.slot c.loop-slot.invariant c.in_default.ensures

pub returns : goal.returns
returns c = λ a h.
    let in_list = labelled_in c.args.seen.now a.0 h.label h.label_is in
    let past = c.loop-slot-test.false in
    let long = c.requires in
    c.loop-slot.invariant a.0 (omega (arith, in_list, past, long)) a.1 h
