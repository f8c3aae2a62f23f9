use Rattle.std.proofs.Common.{◌≡◌, drop}
use Rattle.zr_store.specs.Memory.{is_kept}
use Rattle.zr_store.proofs.mem_blocks.find.Given as goal

abbrev pub invariant-loop-i : goal.invariant-loop-i
invariant-loop-i l = is_kept l.at l.kept ≡ is_kept l.at (drop l.i l.kept)
