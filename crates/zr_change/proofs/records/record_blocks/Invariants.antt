use Rattle.std.proofs.Common.{take}
use Rattle.zr_change.specs.Changes.{RecordsBlocks}
use Rattle.zr_change.proofs.records.record_blocks.Given as goal

abbrev pub invariant-loop-change : goal.invariant-loop-change
invariant-loop-change l = RecordsBlocks l.id (take l.change-index l.changes) l.fn.group l.group
