use Rattle.std.proofs.Common.{◌<◌, length, arith, rules}
use Rattle.zr_commit.proofs.Entries.{block_more}
use Rattle.zr_store_rows.proofs.commits.are_block_changes.Goals as goal

pub loop-change-preserved : goal.loop-change-preserved
loop-change-preserved c =
    let lt : c.loop-change.change-index < length c.args.changes.now = omega arith in
    block_more c.args.changes.now c.loop-change.change-index _ lt c.loop-change.invariant (c.is_block_change.ensures (search rules))
