use Rattle.std.proofs.Common.{arith, ◌≡◌, ◌∷◌, []}
use Rattle.std.proofs.lemmas.Grind.{common_steps}
use Rattle.zr_smap.proofs.Cutting.{all_placed, none_cut, one_cut, each_cut}
use Rattle.zr_smap.proofs.cut_words.Goals as goal

pub loop-extent-init : goal.loop-extent-init
loop-extent-init c = record {
  placed = all_placed 0 c.args.extents.now c.requires.maximal c.requires.reach;
  cut = rw c.new-words.ensures.items (none_cut c.args.most c.args.dev c.args.extents.now);
}

pub loop-extent-preserved : goal.loop-extent-preserved
loop-extent-preserved c =
    let split : c.loop-extent.rest.now ≡ c.in-Some.extent.now ∷ c.in-Some.tail.now = grind (arith, common_steps) in
    record {
      placed = (rw split at c.loop-extent.invariant.placed).1;
      cut = one_cut c.loop-extent.words.items c.put_run.new.words.items c.args.most c.args.dev c.args.extents.now c.in-Some.tail.now c.in-Some.extent.now c.in_ok-put_run.ensures (rw split at c.loop-extent.invariant.cut);
    }

pub returns : goal.returns
returns c =
    let split : c.loop-extent.rest.now ≡ [] = grind (arith, common_steps) in
    each_cut c.loop-extent.words.items c.args.most c.args.dev c.args.extents.now (rw split at c.loop-extent.invariant.cut)
