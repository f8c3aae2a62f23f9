use Rattle.std.proofs.Common.{rules}
use Rattle.zr_slots.proofs.Places.{at_place, no_place, device_read}
use Rattle.zr_slots.proofs.pool.slot_of_device.Goals as goal

pub returns-then-is_device : goal.returns-then-is_device
returns-then-is_device c =
    at_place c.args.u.now c.args.seen.now c.args.index c.loop-slot.slot (search rules) c.loop-slot-test.true c.loop-slot.invariant
    (device_read c.args.u.now c.args.seen.now c.args.index c.loop-slot.slot c.index-seen-slot.result _ c.loop-slot-test.true c.index-seen-slot.is c.if-is_device.ensures)

pub returns : goal.returns
returns c = no_place c.args.u.now c.args.seen.now c.args.index c.loop-slot.slot (search rules) c.loop-slot-test.false c.loop-slot.invariant
