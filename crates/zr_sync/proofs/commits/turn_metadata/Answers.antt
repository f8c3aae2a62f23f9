use Rattle.std.proofs.lemmas.Result.{on_ok_weaker}
use Rattle.std.proofs.Common.{◌≡◌, ◌<◌, ℕ, [], sym, ap, subst}
use Rattle.std.specs.Prelude.{OnOk}
use Rattle.zr_bptr.specs.declared.Tree.{Tree}
use Rattle.zr_sync.specs.Trees.{HoldsStreams, first_stage, giving, head_tree, one_stage, writing}
use Rattle.zr_sync.specs.Trees.Stage.{Written}
use Rattle.zr_sync.specs.declared.open.OpenPool.{OpenPool}
use Rattle.zr_sync.specs.declared.open.Table.{Table}
use Rattle.zr_sync.proofs.LateTrees.{all_first}
use Rattle.zr_sync.proofs.Progress.{restaged, writing_no_late}
use Rattle.zr_sync.proofs.Stages.{not_written}
use Rattle.zr_sync.proofs.Anew.{renewed_still, streams_counts}
use Rattle.zr_sync.proofs.Pools.{metadata_then, metadata_table}
use Rattle.zr_sync.proofs.commits.turn_metadata.Goals as goal

pub returns-in_err-give_head-clause-wrote : goal.returns-in_err-give_head-clause-wrote
returns-in_err-give_head-clause-wrote g c = metadata_then c.write_streams.ensures.wrote c.give_head.ensures.wrote

pub returns-clause-wrote : goal.returns-clause-wrote
returns-clause-wrote g c = metadata_then c.write_streams.ensures.wrote (metadata_then c.give_head.ensures.wrote c.give_lates.ensures.wrote)

pub returns-clause-anew : goal.returns-clause-anew
returns-clause-anew g c = λ is.
    let was = c.args.pool.now in
    let wrote = c.in_ok-write_streams.ensures.anew is in
    let given = renewed_still was.version was.space c.write_streams.new.pool c.give_head.new.pool was.table.count (streams_counts c.write_streams.new.pool c.give_head.new.pool c.give_head.ensures.streams) wrote in
    on_ok_weaker c.give_lates.result (λ counts. renewed_still was.version was.space c.give_head.new.pool c.give_lates.new.pool was.table.count counts given) c.give_lates.ensures.counts

pub returns-clause-trees : goal.returns-clause-trees
returns-clause-trees g c = λ bytes h.
    let x = c.args.pool.now in
    let n = x.table.count in
    let s = first_stage c.args.logs in
    let unwritten = not_written c.args.logs in
    let streams = c.write_streams.new in
    let headless = c.give_head.new in
    let one = c.in_ok-write_streams.ensures.trees (head_tree x.head bytes) h in
    let head : streams.pool.head ≡ x.head = ap (λ (o : OpenPool). o.head) c.write_streams.ensures.wrote.rest in
    let two =
    c.in_ok-give_head.ensures.trees (writing s n) (one_stage Written) bytes (writing_no_late s unwritten n)
    (subst (λ (t : Tree). HoldsStreams (writing s n) (one_stage Written) (head_tree t bytes) (g.S.Shelf.tells streams.shelf) (g.S.Shelf.world streams.shelf).now.seen streams.pool) (sym head) one) in
    let count : headless.pool.table.count ≡ n = ap (λ (t : Table). t.count) (metadata_table (metadata_then c.write_streams.ensures.wrote c.give_head.ensures.wrote)) in
    let three = restaged (writing s n) (giving s 0) (one_stage Written) [] (g.S.Shelf.tells headless.shelf) (g.S.Shelf.world headless.shelf).now.seen headless.pool (λ e p lt. all_first s n e p (subst (λ (k : ℕ). e < k) count lt)) two in
    subst (λ (k : ℕ). OnOk c.give_lates.result (HoldsStreams (giving s k) (one_stage Written) [] (g.S.Shelf.tells c.give_lates.new.shelf) (g.S.Shelf.world c.give_lates.new.shelf).now.seen c.give_lates.new.pool)) count (c.give_lates.ensures.trees s (one_stage Written) [] unwritten three)
