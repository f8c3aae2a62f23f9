use Rattle.std.proofs.Common.{arith, ◌+◌, ◌*◌}
use Rattle.zr_rows.proofs.Rising.{after_more}
use Rattle.zr_rows.proofs.mappings.every_other.Goals as goal

pub loop-i-preserved : goal.loop-i-preserved
loop-i-preserved c = rw c.in_ok-push.ensures.ok (after_more c.loop-i.map.entries _ _ c.loop-i.invariant (omega arith))
