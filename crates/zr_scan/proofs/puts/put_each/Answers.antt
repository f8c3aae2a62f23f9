use Rattle.std.proofs.Common.{◌∙◌, arith}
use Rattle.zr_scan.specs.Puts.{puts}
use Rattle.zr_scan.proofs.Putting.{put_more, rest_same, there_more}
use Rattle.zr_scan.proofs.puts.put_each.Goals as goal

pub returns-in_err-write-clause-wrote : goal.returns-in_err-write-clause-wrote
returns-in_err-write-clause-wrote g c = λ t.
    put_more c.args.slot c.args.places.now c.args.bytes.now c.loop-i.i c.write.result (g.S.Shelf.world c.args.shelf.now) (g.S.Shelf.world c.loop-i.shelf) (g.S.Shelf.world c.write.new.self)
    c.loop-i-test.true (c.loop-i.invariant.wrote t) (c.write.ensures.world (c.loop-i.invariant.told t))

pub returns-in_err-write-clause-rest : goal.returns-in_err-write-clause-rest
returns-in_err-write-clause-rest g c = λ t.
    rest_same (puts c.args.slot c.args.places.now c.args.bytes.now) (g.S.Shelf.world c.args.shelf.now) (g.S.Shelf.world c.write.new.self) (returns-in_err-write-clause-wrote g c t)

pub loop-i-preserved : goal.loop-i-preserved
loop-i-preserved g c = record {
  sizes = c.write.ensures.sizes ∙ c.loop-i.invariant.sizes;
  none_fell = let a = c.loop-i.invariant.none_fell in let b = c.write.ensures.none_fell in record { disk = omega arith; attach = omega arith; input = omega arith; output = omega arith };
  told = λ t. c.write.ensures.told (c.loop-i.invariant.told t);
  wrote = λ t.
      put_more c.args.slot c.args.places.now c.args.bytes.now c.loop-i.i c.write.result (g.S.Shelf.world c.args.shelf.now) (g.S.Shelf.world c.loop-i.shelf) (g.S.Shelf.world c.write.new.self)
      c.loop-i-test.true (c.loop-i.invariant.wrote t) (c.write.ensures.world (c.loop-i.invariant.told t));
  there = λ t.
      let done = c.in_ok-write.ensures.world (c.loop-i.invariant.told t) in
      there_more c.args.slot c.args.places.now c.args.bytes.now c.loop-i.i (g.S.Shelf.world c.loop-i.shelf).now (g.S.Shelf.world c.write.new.self).now
      c.loop-i-test.true c.requires.spread (c.loop-i.invariant.there t) done.step.0 done.step.1;
}

pub returns-clause-rest : goal.returns-clause-rest
returns-clause-rest g c = λ t. rest_same (puts c.args.slot c.args.places.now c.args.bytes.now) (g.S.Shelf.world c.args.shelf.now) (g.S.Shelf.world c.loop-i.shelf) (c.loop-i.invariant.wrote t)
