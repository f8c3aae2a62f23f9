use Rattle.std.proofs.Common.{◌≡◌, List, map, take}
use Rattle.std.specs.List.{AllByRecursion}
use Rattle.zr_meta.specs.declared.Stream.{Stream}
use Rattle.zr_meta.specs.Heads.{IsStream, stream_bytes}
use Rattle.zr_meta.proofs.read.each_of.Given as goal

abbrev pub invariant-loop-piece : goal.invariant-loop-piece
invariant-loop-piece l = (ss : List Stream) → AllByRecursion IsStream ss → l.pieces ≡ map stream_bytes ss → l.streams ≡ take l.piece-index ss
