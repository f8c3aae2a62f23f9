use Rattle.std.proofs.Common.{◌≡◌, ◌++◌, take}
use Rattle.std.specs.List.{flat_map}
use Rattle.zr_meta.specs.Heads.{stream_bytes}
use Rattle.zr_meta.proofs.write.put_streams.Given as goal

abbrev pub invariant-loop-s : goal.invariant-loop-s
invariant-loop-s l = l.bytes.items ≡ l.fn.bytes.items ++ flat_map stream_bytes (take l.s-index l.streams)
