use Rattle.std.proofs.Common.{rules, ◌≢◌}
use Rattle.zr_label.specs.declared.root.Uber.{Uber}
use Rattle.zr_slots.proofs.Shown.{roots_read}
use Rattle.zr_slots.proofs.Window.{slots_all, slots_more, none_there}
use Rattle.zr_slots.proofs.kept.first_shown.Goals as goal

pub loop-slot-preserved : goal.loop-slot-preserved
loop-slot-preserved c =
    let read = roots_read c.args.seen.now c.loop-slot.slot c.index-seen-slot.result c.as_slice.result.now c.loop-slot-test.true c.index-seen-slot.is c.as_slice.ensures in
    slots_more (λ (u : Uber). u.txg ≢ c.args.txg) c.args.seen.now c.loop-slot.slot c.as_slice.result.now read c.loop-slot.invariant
    (none_there _ c.first_in.result c.first_in.ensures.none (λ u same. (let other = c.in_default.not-Some in search (rules, other))))

pub returns-clause-none : goal.returns-clause-none
returns-clause-none c = slots_all (λ (u : Uber). u.txg ≢ c.args.txg) c.args.seen.now c.loop-slot.slot c.loop-slot-test.false c.loop-slot.invariant
