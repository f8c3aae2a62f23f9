use Rattle.std.proofs.Common.{ap, arith}
use Rattle.zr_sync.specs.declared.open.Table.{Table}
use Rattle.zr_sync.proofs.Pools.{metadata_itself, metadata_then, metadata_table}
use Rattle.zr_sync.proofs.late.write_lates.Goals as goal

pub loop-dev-init : goal.loop-dev-init
loop-dev-init g c = record {
  wrote = metadata_itself (g.S.Shelf.sizes c.args.shelf.now) (g.S.Shelf.counts c.args.shelf.now) (g.S.Shelf.tells c.args.shelf.now) (g.S.Shelf.world c.args.shelf.now) c.args.pool.now;
  pool = c.requires.pool;
  trees = λ cond others h. h;
}

pub write_late-requires-clause-dev : goal.write_late-requires-clause-dev
write_late-requires-clause-dev g c =
    let same = ap (λ (t : Table). t.count) (metadata_table c.loop-dev.invariant.wrote) in
    omega (arith, same, c.loop-dev-test.true)

pub returns-in_err-write_late-clause-wrote : goal.returns-in_err-write_late-clause-wrote
returns-in_err-write_late-clause-wrote g c = metadata_then c.loop-dev.invariant.wrote c.write_late.ensures.wrote

pub loop-dev-preserved : goal.loop-dev-preserved
loop-dev-preserved g c = record {
  wrote = metadata_then c.loop-dev.invariant.wrote c.write_late.ensures.wrote;
  pool = c.in_ok-write_late.ensures.pool;
  trees = λ cond others h. c.in_ok-write_late.ensures.trees cond others (c.loop-dev.invariant.trees cond others h);
}
