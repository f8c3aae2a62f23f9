use Rattle.std.proofs.Common.{arith}
use Rattle.zr_smap.proofs.Cutting.{piece_cut, all_cut}
use Rattle.zr_smap.proofs.put_run.Goals as goal

pub loop-at-preserved : goal.loop-at-preserved
loop-at-preserved c = record {
  within = omega (arith, c.min.ensures);
  cut = piece_cut c.args.words.now.items c.loop-at.words.items c.put_change.new.words.items c.args.most c.args.dev c.loop-at.at c.min.result c.args.run c.requires.some c.loop-at-test.true c.min.ensures c.in_ok-put_change.ensures c.loop-at.invariant.cut;
}

pub returns : goal.returns
returns c = all_cut c.args.words.now.items c.loop-at.words.items c.args.most c.args.dev c.loop-at.at c.args.run (omega (arith, c.loop-at.invariant.within, c.loop-at-test.false)) c.loop-at.invariant.cut
