use Rattle.std.proofs.Common.{ap, arith}
use Rattle.zr_sync.specs.declared.open.Table.{Table}
use Rattle.zr_sync.proofs.Anew.{no_lates_counts, same_counts}
use Rattle.zr_sync.proofs.Pools.{metadata_itself, metadata_then, metadata_table}
use Rattle.zr_sync.proofs.late.give_lates.Goals as goal

pub loop-dev-init : goal.loop-dev-init
loop-dev-init g c = record {
  wrote = metadata_itself (g.S.Shelf.sizes c.args.shelf.now) (g.S.Shelf.counts c.args.shelf.now) (g.S.Shelf.tells c.args.shelf.now) (g.S.Shelf.world c.args.shelf.now) c.args.pool.now;
  pool = c.requires.pool;
  counts = same_counts c.args.pool.now;
  trees = λ first cond others unwritten h. h;
}

pub give_late-requires-clause-dev : goal.give_late-requires-clause-dev
give_late-requires-clause-dev g c =
    let same = ap (λ (t : Table). t.count) (metadata_table c.loop-dev.invariant.wrote) in
    omega (arith, same, c.loop-dev-test.true)

pub returns-in_err-give_late-clause-wrote : goal.returns-in_err-give_late-clause-wrote
returns-in_err-give_late-clause-wrote g c = metadata_then c.loop-dev.invariant.wrote c.give_late.ensures.wrote

pub loop-dev-preserved : goal.loop-dev-preserved
loop-dev-preserved g c = record {
  wrote = metadata_then c.loop-dev.invariant.wrote c.give_late.ensures.wrote;
  pool = c.in_ok-give_late.ensures.pool;
  counts =
      let count = c.loop-dev.invariant.pool.count in
      let same = ap (λ (t : Table). t.count) (metadata_table c.loop-dev.invariant.wrote) in
      no_lates_counts c.args.pool.now c.loop-dev.pool c.give_late.new.pool c.loop-dev.dev (omega (arith, same, count, c.loop-dev-test.true)) c.loop-dev.invariant.counts c.in_ok-give_late.ensures.none;
  trees = λ first cond others unwritten h. c.in_ok-give_late.ensures.trees first cond others unwritten (c.loop-dev.invariant.trees first cond others unwritten h);
}
