use Rattle.std.proofs.Common.{◌≡◌, drop}
use Rattle.zr_store.specs.Memory.{bytes_at}
use Rattle.zr_store.proofs.mem_blocks.copy_at.Given as goal

abbrev pub invariant-loop-k : goal.invariant-loop-k
invariant-loop-k l = bytes_at l.kept l.b ≡ bytes_at (drop l.k-index l.kept) l.b
