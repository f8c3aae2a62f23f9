use Rattle.std.proofs.lemmas.Result.{on_ok_weaker}
use Rattle.zr_sync.specs.Trees.{first_stage, one_stage, writing}
use Rattle.zr_sync.proofs.Anew.{renewed_still}
use Rattle.zr_sync.proofs.Progress.{writing_no_late}
use Rattle.zr_sync.proofs.Pools.{metadata_then}
use Rattle.zr_sync.proofs.Stages.{not_written}
use Rattle.zr_sync.proofs.device_streams.write_streams.Goals as goal

pub returns-clause-wrote : goal.returns-clause-wrote
returns-clause-wrote g c = metadata_then c.write_devices.ensures.wrote c.write_condensing.ensures.wrote

pub returns-clause-anew : goal.returns-clause-anew
returns-clause-anew g c = λ is.
    let was = c.args.pool.now in
    on_ok_weaker c.write_condensing.result (λ counts. renewed_still was.version was.space c.write_devices.new.pool c.write_condensing.new.pool was.table.count counts (c.in_ok-write_devices.ensures.anew is)) c.write_condensing.ensures.counts

pub returns-clause-trees : goal.returns-clause-trees
returns-clause-trees g c = λ others h.
    let done = c.args.pool.now.table.count in
    let s = first_stage c.args.logs in
    c.write_condensing.ensures.trees (writing s done) others (writing_no_late s (not_written c.args.logs) done) (c.in_ok-write_devices.ensures.trees (one_stage s) others h)
