use Rattle.std.proofs.Common.{◌≡◌, map}
use Rattle.std.specs.List.{range_with_len}
use Rattle.zr_tables.specs.Tables.{list_line}
use Rattle.zr_tables.proofs.lists.list.Given as goal

abbrev pub invariant-loop-index : goal.invariant-loop-index
invariant-loop-index l = l.lines ≡ map (list_line l.pool l.paths) (range_with_len 0 l.index)
