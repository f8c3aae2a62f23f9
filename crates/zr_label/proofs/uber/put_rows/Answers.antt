use Rattle.std.proofs.Common.{rules}
use Rattle.zr_label.proofs.Ubers.{put_more}
use Rattle.zr_label.proofs.uber.put_rows.Goals as goal

pub loop-i-preserved : goal.loop-i-preserved
loop-i-preserved c = put_more c.args.block.now c.loop-i.block c.put.new.block _ c.args.rows.now c.loop-i.i _ (search rules) c.row_bytes.ensures c.loop-i.invariant c.put.ensures
