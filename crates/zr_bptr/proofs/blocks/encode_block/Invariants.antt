use Rattle.std.proofs.Common.{◌≡◌, take}
use Rattle.std.specs.List.{flat_map}
use Rattle.zr_bptr.specs.Spelling.{pointer_bytes}
use Rattle.zr_bptr.proofs.blocks.encode_block.Given as goal

abbrev pub invariant-loop-p : goal.invariant-loop-p
invariant-loop-p l = l.bytes.items ≡ flat_map pointer_bytes (take l.p-index l.pointers)
