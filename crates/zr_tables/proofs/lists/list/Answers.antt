use Rattle.zr_tables.specs.Tables.{list_line}
use Rattle.zr_tables.proofs.Lines.{line_more}
use Rattle.zr_tables.proofs.lists.list.Goals as goal

pub loop-index-preserved : goal.loop-index-preserved
loop-index-preserved c =
    line_more (list_line c.args.pool.now c.args.paths.now) c.loop-index.index c.in_ok-line_of.field-0 c.loop-index.lines c.push.new.self c.in_ok-line_of.ensures c.loop-index.invariant c.in_ok-push.ensures
