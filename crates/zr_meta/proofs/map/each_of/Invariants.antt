use Rattle.std.proofs.Common.{take}
use Rattle.zr_meta.specs.Streams.{SpellsEachEntry}
use Rattle.zr_meta.proofs.map.each_of.Given as goal

abbrev pub invariant-loop-piece : goal.invariant-loop-piece
invariant-loop-piece l = SpellsEachEntry (take l.piece-index l.pieces) l.entries
