use Rattle.std.proofs.Common.{◌≡◌, take}
use Rattle.std.specs.List.{flat_map}
use Rattle.zr_bptr.specs.Spelling.{record_bytes}
use Rattle.zr_bptr.proofs.records.encode_records.Given as goal

abbrev pub invariant-loop-r : goal.invariant-loop-r
invariant-loop-r l = l.bytes.items ≡ flat_map record_bytes (take l.r-index l.records)
