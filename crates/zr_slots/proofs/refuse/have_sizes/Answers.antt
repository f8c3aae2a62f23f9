use Rattle.std.proofs.Common.{refl}
use Rattle.zr_slots.proofs.Sizes.{size_found, size_none, unsized}
use Rattle.zr_slots.proofs.refuse.have_sizes.Goals as goal

pub returns-then-is_none : goal.returns-then-is_none
returns-then-is_none c = (
  _,
  size_found c.args.sizes.now c.args.version c.args.named.now c.loop-i.i c.loop-i-test.true c.loop-i.invariant (unsized _ c.args.version c.units_of_size.result c.units_of_size.ensures c.if-is_none.ensures),
  refl,
)

pub returns : goal.returns
returns c = size_none c.args.sizes.now c.args.version c.args.named.now c.loop-i.i c.loop-i-test.false c.loop-i.invariant
