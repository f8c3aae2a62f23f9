use Rattle.std.proofs.Common.{take}
use Rattle.std.specs.List.{AllByRecursion}
use Rattle.zr_lookup.specs.Groups.{IsBlockChange}
use Rattle.zr_store_rows.proofs.commits.are_block_changes.Given as goal

abbrev pub invariant-loop-change : goal.invariant-loop-change
invariant-loop-change l = AllByRecursion IsBlockChange (take l.change-index l.changes)
