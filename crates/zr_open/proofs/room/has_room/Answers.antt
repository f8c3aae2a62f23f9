use Rattle.std.proofs.Common.{ap, arith}
use Rattle.zr_base.specs.declared.space.Sizes.{Sizes}
use Rattle.zr_roots.proofs.Units.{few_ever}
use Rattle.zr_open.proofs.room.has_room.Goals as goal

pub owed-requires : goal.owed-requires
owed-requires c =
    let few = few_ever c.requires.rows.0 c.args.space.now c.requires.rows.1 c.requires.rows.2 in
    let blocks = ap (λ (z : Sizes). z.blocks) c.sizes.ensures.sizes in
    let objects = ap (λ (z : Sizes). z.objects) c.sizes.ensures.sizes in
    let words = c.sizes.ensures.words in
    let streams = c.sizes.ensures.streams in
    let gone = c.sizes.ensures.gone in
    let uncopied = c.sizes.ensures.uncopied in
    let turning = c.sizes.ensures.turning in
    let past = c.sizes.ensures.past in
    record {
      blocks = omega (arith, blocks);
      objects = omega (arith, objects);
      words = omega (arith, words, few);
      streams = omega (arith, streams);
      gone = omega (arith, gone);
      uncopied = omega (arith, uncopied, few);
      turning = omega (arith, turning);
      past = omega (arith, past, few);
    }
