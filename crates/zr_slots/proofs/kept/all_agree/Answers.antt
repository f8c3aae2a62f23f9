use Rattle.std.proofs.Common.{◌≡◌, refl}
use Rattle.zr_label.specs.declared.root.Uber.{Uber}
use Rattle.zr_slots.proofs.Shown.{roots_read}
use Rattle.zr_slots.proofs.Window.{slots_all, slots_more}
use Rattle.zr_slots.proofs.kept.all_agree.Goals as goal

pub loop-slot-preserved : goal.loop-slot-preserved
loop-slot-preserved c =
    let read = roots_read c.args.seen.now c.loop-slot.slot c.index-seen-slot.result c.as_slice.result.now c.loop-slot-test.true c.index-seen-slot.is c.as_slice.ensures in
    slots_more (λ (v : Uber). v.txg ≡ c.args.u.now.txg → v ≡ c.args.u.now) c.args.seen.now c.loop-slot.slot c.as_slice.result.now read c.loop-slot.invariant (c.if-not-agree.ensures.yes refl)

pub returns-clause-yes : goal.returns-clause-yes
returns-clause-yes c = λ t. slots_all (λ (v : Uber). v.txg ≡ c.args.u.now.txg → v ≡ c.args.u.now) c.args.seen.now c.loop-slot.slot c.loop-slot-test.false c.loop-slot.invariant
