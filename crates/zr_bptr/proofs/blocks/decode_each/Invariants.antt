use Rattle.std.proofs.Common.{take}
use Rattle.zr_bptr.specs.Spelling.{SpellsEach}
use Rattle.zr_bptr.proofs.blocks.decode_each.Given as goal

abbrev pub invariant-loop-piece : goal.invariant-loop-piece
invariant-loop-piece l = SpellsEach l.below (take l.piece-index l.pieces) l.pointers.items
