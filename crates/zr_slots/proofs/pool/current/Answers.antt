use Rattle.std.proofs.Common.{refl}
use Rattle.zr_slots.proofs.Shown.{roots_read}
use Rattle.zr_slots.proofs.Newest.{highest_more, highest_found, highest_none}
use Rattle.zr_slots.proofs.pool.current.Goals as goal

pub loop-slot-preserved : goal.loop-slot-preserved
loop-slot-preserved c =
    let read = roots_read c.args.seen.now c.loop-slot.slot c.index-seen-slot.result c.as_slice.result.now c.loop-slot-test.true c.index-seen-slot.is c.as_slice.ensures in
    highest_more c.args.seen.now c.loop-slot.slot c.as_slice.result.now read c.loop-slot.found c.best.result c.higher-found.result
    c.best.ensures.none.0 c.best.ensures.one c.best.ensures.highest c.higher-found.ensures c.loop-slot.invariant

pub returns-in-Some : goal.returns-in-Some
returns-in-Some c = highest_found c.args.seen.now c.loop-slot.slot c.loop-slot.found c.in-Some.u c.loop-slot-test.false c.in-Some.is c.loop-slot.invariant

pub returns-in-None : goal.returns-in-None
returns-in-None c = (highest_none c.args.seen.now c.loop-slot.slot c.loop-slot.found c.loop-slot-test.false c.in-None.is c.loop-slot.invariant, refl)
