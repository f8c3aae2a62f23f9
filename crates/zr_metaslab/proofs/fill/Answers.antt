use Rattle.std.proofs.Common.{arith, ◌∙◌}
use Rattle.zr_metaslab.proofs.Table.{same_last, sound_last, length_last}
use Rattle.zr_metaslab.proofs.fill.Goals as goal

pub loop-alloc-preserved : goal.loop-alloc-preserved
loop-alloc-preserved c = record {
  within = rw c.push_reserved.ensures.items (omega (arith, length_last c.loop-alloc.devs.items c.none.result, c.loop-alloc-test.true, c.len.ensures));
  capacity = omega (arith, c.loop-alloc.invariant.capacity, c.push_reserved.ensures.capacity);
  same = λ j. rw c.push_reserved.ensures.items (same_last c.loop-alloc.devs.items j c.none.result c.none.ensures.device ∙ c.loop-alloc.invariant.same j);
  sound = rw c.push_reserved.ensures.items (sound_last c.loop-alloc.devs.items c.none.result c.loop-alloc.invariant.sound c.none.ensures.sound);
}
