use Rattle.std.proofs.Common.{◌≤◌, ◌^◌, arith}
use Rattle.zr_space.specs.Totals.{units_ever}
use Rattle.zr_room.proofs.Units.{few_ever}
use Rattle.zr_room.proofs.room.counts_with.Goals as goal

pub overflow_add-result : goal.overflow_add-result
overflow_add-result c =
    let few : units_ever c.args.pool.now.space ≤ 2 ^ 31 = few_ever c.requires.pool.0 c.args.pool.now c.requires.pool.1 in
    let words = c.sizes-counted.ensures.words in
    let pieces = c.requires.pieces in
    omega (arith, few, words, pieces)

pub returns-clause-small : goal.returns-clause-small
returns-clause-small c =
    let few : units_ever c.args.pool.now.space ≤ 2 ^ 31 = few_ever c.requires.pool.0 c.args.pool.now c.requires.pool.1 in
    let counted = c.sizes-counted.ensures in
    let pieces = c.requires.pieces in
    let words_are = counted.words in
    let past_is = counted.past in
    let turning_is = counted.turning in
    let streams_are = counted.streams in
    let gone_is = counted.gone in
    let uncopied_is = counted.uncopied in
    record {
      blocks = c.requires.blocks;
      objects = c.requires.objects;
      words = omega (arith, few, words_are, pieces);
      streams = omega (arith, streams_are);
      gone = omega (arith, gone_is);
      uncopied = omega (arith, few, uncopied_is);
      turning = omega (arith, turning_is);
      past = omega (arith, few, past_is);
    }
