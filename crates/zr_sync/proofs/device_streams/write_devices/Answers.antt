use Rattle.std.proofs.Common.{ap, arith}
use Rattle.zr_sync.specs.declared.open.OpenPool.{OpenPool}
use Rattle.zr_sync.specs.declared.open.Table.{Table}
use Rattle.zr_sync.proofs.Anew.{renewed_next}
use Rattle.zr_sync.proofs.Pools.{metadata_itself, metadata_then, metadata_table}
use Rattle.zr_sync.proofs.device_streams.write_devices.Goals as goal

pub loop-dev-init : goal.loop-dev-init
loop-dev-init g c = record {
  wrote = metadata_itself (g.S.Shelf.sizes c.args.shelf.now) (g.S.Shelf.counts c.args.shelf.now) (g.S.Shelf.tells c.args.shelf.now) (g.S.Shelf.world c.args.shelf.now) c.args.pool.now;
  pool = c.requires.pool;
  anew = λ is dev log lt. absurd (omega (arith, lt));
  trees = λ cond others h. h;
}

pub write_device-requires-clause-dev : goal.write_device-requires-clause-dev
write_device-requires-clause-dev g c =
    let same = ap (λ (t : Table). t.count) (metadata_table c.loop-dev.invariant.wrote) in
    omega (arith, same, c.loop-dev-test.true)

pub returns-in_err-write_device-clause-wrote : goal.returns-in_err-write_device-clause-wrote
returns-in_err-write_device-clause-wrote g c = metadata_then c.loop-dev.invariant.wrote c.write_device.ensures.wrote

pub loop-dev-preserved : goal.loop-dev-preserved
loop-dev-preserved g c = record {
  wrote = metadata_then c.loop-dev.invariant.wrote c.write_device.ensures.wrote;
  pool = c.in_ok-write_device.ensures.pool;
  anew = λ is.
      let wrote = c.loop-dev.invariant.wrote in
      let count = c.loop-dev.invariant.pool.count in
      let same = ap (λ (t : Table). t.count) (metadata_table wrote) in
      renewed_next c.args.pool.now.version c.args.pool.now.space c.loop-dev.pool c.write_device.new.pool c.loop-dev.dev (omega (arith, same, count, c.loop-dev-test.true)) (ap (λ (o : OpenPool). o.version) wrote.rest) wrote.goes.space
      (c.in_ok-write_device.ensures.anew is) (c.loop-dev.invariant.anew is);
  trees = λ cond others h. c.in_ok-write_device.ensures.trees cond others (c.loop-dev.invariant.trees cond others h);
}
