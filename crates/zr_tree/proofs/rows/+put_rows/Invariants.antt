use Rattle.std.proofs.Common.{◌+◌, ◌*◌, ◌-◌}
use Rattle.zr_tree.proofs.rows.+put_rows.Given as goal

abbrev pub decreases-put_rows : goal.decreases-put_rows
decreases-put_rows g l = 2 * l.height + (1 - l.t.now.height)
