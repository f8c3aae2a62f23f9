use Rattle.std.proofs.Common.{◌∙◌, refl}
use Rattle.std.proofs.lemmas.Result.{on_ok_weaker}
use Rattle.zr_sync.specs.Trees.{first_stage, one_stage}
use Rattle.zr_sync.specs.Trees.Stage.{Written}
use Rattle.zr_sync.proofs.Anew.{streams_counts}
use Rattle.zr_sync.proofs.CondTrees.{all_more, half, half_more, none_done}
use Rattle.zr_sync.proofs.Pools.{metadata_then}
use Rattle.zr_sync.proofs.device_streams.write_condensing.Goals as goal

pub returns-in_err-write_cond-clause-wrote : goal.returns-in_err-write_cond-clause-wrote
returns-in_err-write_cond-clause-wrote g c = metadata_then c.give_done.ensures.wrote c.write_cond.ensures.wrote

pub returns-clause-wrote : goal.returns-clause-wrote
returns-clause-wrote g c = metadata_then c.give_done.ensures.wrote (metadata_then c.write_cond.ensures.wrote c.write_cond-2.ensures.wrote)

pub returns-clause-counts : goal.returns-clause-counts
returns-clause-counts g c =
    on_ok_weaker c.write_cond-2.result (λ same. streams_counts c.args.pool.now c.write_cond-2.new.pool (same ∙ (c.in_ok-write_cond.ensures.streams ∙ c.give_done.ensures.streams))) c.write_cond-2.ensures.streams

pub returns-clause-trees : goal.returns-clause-trees
returns-clause-trees g c = λ stage others none h.
    let s = first_stage c.args.logs in
    let given = c.in_ok-give_done.ensures.trees c.args.logs stage others none h in
    let goes_on = none_done c.args.pool.now.cond c.give_done.new.pool.cond c.in_ok-give_done.ensures.none in
    let first = c.in_ok-write_cond.ensures.trees stage (one_stage s) (half s) others refl refl (half_more s) goes_on none given in
    c.write_cond-2.ensures.trees stage (half s) (one_stage Written) others refl refl (all_more s) (c.in_ok-write_cond.ensures.done ∙ goes_on) none first
