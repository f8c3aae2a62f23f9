use Rattle.std.proofs.Common.{arith}
use Rattle.zr_removal.proofs.Few.{few_ever, few_held}
use Rattle.zr_removal.proofs.room.leaving_sizes.Goals as goal

pub overflow_add-result-2 : goal.overflow_add-result-2
overflow_add-result-2 c =
    let ever = few_ever c.requires.pool.0 c.args.pool.now c.requires.pool.1 in
    let uncopied = c.sizes-counted.ensures.uncopied in
    let bound = c.units.ensures.bound in
    omega (arith, ever, uncopied, bound)

pub returns-clause-small : goal.returns-clause-small
returns-clause-small c =
    let ever = few_ever c.requires.pool.0 c.args.pool.now c.requires.pool.1 in
    let held = few_held c.requires.pool.0 c.args.pool.now c.args.dev c.requires.pool.1 c.requires.known in
    let counted = c.sizes-counted.ensures in
    let words = counted.words in
    let past = counted.past in
    let turning = counted.turning in
    let streams = counted.streams in
    let gone = counted.gone in
    let uncopied = counted.uncopied in
    let limits = c.requires.pool.1.limits in
    let blocks = limits.blocks in
    let objects = limits.objects in
    let blocks_are = c.blocks-2.ensures in
    let objects_are = c.objects.ensures.count in
    let set = c.held.ensures in
    let units = c.units.ensures.units in
    let less = c.saturating_sub.ensures in
    record {
      blocks = omega (arith, blocks, blocks_are);
      objects = omega (arith, objects, objects_are);
      words = omega (arith, ever, words);
      streams = omega (arith, streams);
      gone = omega (arith, gone);
      uncopied = grind (arith, ever, uncopied, held, set, units);
      turning = grind (arith, turning, less);
      past = omega (arith, ever, past);
    }
