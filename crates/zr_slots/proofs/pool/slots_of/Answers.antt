use Rattle.std.proofs.Common.{refl, arith}
use Rattle.zr_slots.proofs.Places.{all_places, all_none}
use Rattle.zr_slots.proofs.pool.slots_of.Goals as goal

pub loop-index-init : goal.loop-index-init
loop-index-init c = record { long = refl; done = λ k lt. absurd (omega arith); rest = λ k le. all_none k }

pub returns-clause-slots : goal.returns-clause-slots
returns-clause-slots c =
    all_places c.args.u.now c.args.seen.now c.loop-index.index c.loop-index.slots c.loop-index.invariant.long c.requires.devices c.loop-index-test.false c.loop-index.auto.index-end c.loop-index.invariant.done
