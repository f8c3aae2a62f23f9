use Rattle.std.proofs.Common.{take}
use Rattle.zr_bptr.specs.Spelling.{SpellsEachRecord}
use Rattle.zr_bptr.proofs.records.decode_each.Given as goal

abbrev pub invariant-loop-piece : goal.invariant-loop-piece
invariant-loop-piece l = SpellsEachRecord (take l.piece-index l.pieces) l.records.items
