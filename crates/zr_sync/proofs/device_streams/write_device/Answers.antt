use Rattle.std.proofs.Common.{◌+◌, ap, arith}
use Rattle.std.proofs.lemmas.Result.{on_ok_weaker}
use Rattle.zr_sync.specs.declared.open.OpenPool.{OpenPool}
use Rattle.zr_sync.specs.declared.open.Table.{Table}
use Rattle.zr_sync.specs.Trees.{first_stage, writing}
use Rattle.zr_sync.specs.Trees.Place.{OfLog, OfMapping}
use Rattle.zr_sync.specs.declared.mappings.MappingStream.TheVariants.{Entries, Counts}
use Rattle.zr_sync.specs.declared.words.Log.TheVariants.{Held, Kept, Fresh}
use Rattle.zr_sync.proofs.Pools.{metadata_then, metadata_table}
use Rattle.zr_sync.proofs.Progress.{restaged, within, within_all, within_next, within_no_late, within_none}
use Rattle.zr_sync.proofs.Stages.{not_written}
use Rattle.zr_sync.proofs.device_streams.write_device.Goals as goal

pub write_log-requires-2-clause-dev : goal.write_log-requires-2-clause-dev
write_log-requires-2-clause-dev g c =
    let same = ap (λ (t : Table). t.count) (metadata_table c.write_log.ensures.wrote) in
    omega (arith, same, c.requires.dev)

pub write_mapping-requires-clause-dev : goal.write_mapping-requires-clause-dev
write_mapping-requires-clause-dev g c =
    let same = ap (λ (t : Table). t.count) (metadata_table (metadata_then c.write_log.ensures.wrote c.write_log-2.ensures.wrote)) in
    omega (arith, same, c.requires.dev)

pub write_mapping-requires-2-clause-dev : goal.write_mapping-requires-2-clause-dev
write_mapping-requires-2-clause-dev g c =
    let same = ap (λ (t : Table). t.count) (metadata_table (metadata_then c.write_log.ensures.wrote (metadata_then c.write_log-2.ensures.wrote c.write_mapping.ensures.wrote))) in
    omega (arith, same, c.requires.dev)

pub write_log-requires-3-clause-dev : goal.write_log-requires-3-clause-dev
write_log-requires-3-clause-dev g c =
    let same = ap (λ (t : Table). t.count) (metadata_table (metadata_then c.write_log.ensures.wrote (metadata_then c.write_log-2.ensures.wrote (metadata_then c.write_mapping.ensures.wrote c.write_mapping-2.ensures.wrote)))) in
    omega (arith, same, c.requires.dev)

pub returns-in_err-write_log-2-clause-wrote : goal.returns-in_err-write_log-2-clause-wrote
returns-in_err-write_log-2-clause-wrote g c = metadata_then c.write_log.ensures.wrote c.write_log-2.ensures.wrote

pub returns-in_err-write_mapping-clause-wrote : goal.returns-in_err-write_mapping-clause-wrote
returns-in_err-write_mapping-clause-wrote g c = metadata_then c.write_log.ensures.wrote (metadata_then c.write_log-2.ensures.wrote c.write_mapping.ensures.wrote)

pub returns-in_err-write_mapping-2-clause-wrote : goal.returns-in_err-write_mapping-2-clause-wrote
returns-in_err-write_mapping-2-clause-wrote g c = metadata_then c.write_log.ensures.wrote (metadata_then c.write_log-2.ensures.wrote (metadata_then c.write_mapping.ensures.wrote c.write_mapping-2.ensures.wrote))

pub returns-clause-wrote : goal.returns-clause-wrote
returns-clause-wrote g c =
    metadata_then c.write_log.ensures.wrote (metadata_then c.write_log-2.ensures.wrote (metadata_then c.write_mapping.ensures.wrote (metadata_then c.write_mapping-2.ensures.wrote c.write_log-3.ensures.wrote)))

pub returns-clause-anew : goal.returns-clause-anew
returns-clause-anew g c = λ is.
    let to_last = metadata_then c.write_log.ensures.wrote (metadata_then c.write_log-2.ensures.wrote (metadata_then c.write_mapping.ensures.wrote c.write_mapping-2.ensures.wrote)) in
    on_ok_weaker c.write_log-3.result
    (λ fresh. record {
      first = c.write_log.new.pool;
      held = c.in_ok-write_log.ensures.anew is;
      to_first = c.write_log.ensures.wrote.goes.space;
      first_version = ap (λ (o : OpenPool). o.version) c.write_log.ensures.wrote.rest;
      second = c.write_log-2.new.pool;
      kept = c.in_ok-write_log-2.ensures.anew is;
      third = c.write_mapping.new.pool;
      entries = c.in_ok-write_mapping.ensures.streams;
      last = c.write_mapping-2.new.pool;
      counts = c.in_ok-write_mapping-2.ensures.streams;
      to_last = to_last.goes.space;
      last_version = ap (λ (o : OpenPool). o.version) to_last.rest;
      fresh = fresh;
    })
    (c.write_log-3.ensures.anew is)

pub returns-clause-trees : goal.returns-clause-trees
returns-clause-trees g c = λ cond others h.
    let dev = c.args.dev in
    let s = first_stage c.args.logs in
    let unwritten = not_written c.args.logs in
    let first = restaged (writing s dev) (within s dev 0) cond others (g.S.Shelf.tells c.args.shelf.now) (g.S.Shelf.world c.args.shelf.now).now.seen c.args.pool.now (λ e p lt. within_none s dev e p) h in
    let one = c.in_ok-write_log.ensures.trees (within s dev 0) (within s dev 1) cond others (within_next s dev (OfLog Held)) (within_no_late s unwritten dev 0 (omega arith)) first in
    let two = c.in_ok-write_log-2.ensures.trees (within s dev 1) (within s dev 2) cond others (within_next s dev (OfLog Kept)) (within_no_late s unwritten dev 1 (omega arith)) one in
    let three = c.in_ok-write_mapping.ensures.trees (within s dev 2) (within s dev 3) cond others (within_next s dev (OfMapping Entries)) (within_no_late s unwritten dev 2 (omega arith)) two in
    let four = c.in_ok-write_mapping-2.ensures.trees (within s dev 3) (within s dev 4) cond others (within_next s dev (OfMapping Counts)) (within_no_late s unwritten dev 3 (omega arith)) three in
    on_ok_weaker c.write_log-3.result
    (λ last. restaged (within s dev 5) (writing s (dev + 1)) cond others (g.S.Shelf.tells c.write_log-3.new.shelf) (g.S.Shelf.world c.write_log-3.new.shelf).now.seen c.write_log-3.new.pool (λ e p lt. within_all s dev e p) last)
    (c.write_log-3.ensures.trees (within s dev 4) (within s dev 5) cond others (within_next s dev (OfLog Fresh)) (within_no_late s unwritten dev 4 (omega arith)) four)
