use Rattle.std.proofs.Common.{◌≡◌, ◌+◌, drop}
use Rattle.std.specs.FinMap as map
use Rattle.zr_model.specs.Objects.{put_bytes}
use Rattle.zr_session.proofs.object.put_all.Given as goal

abbrev pub invariant-loop-byte : goal.invariant-loop-byte
invariant-loop-byte l = record {
  place : l.at ≡ l.off + l.byte-index;
  rest : put_bytes (map.from_entries l.stored.entries) l.at (drop l.byte-index l.bytes) ≡ put_bytes (map.from_entries l.fn.stored.entries) l.off l.bytes;
}
