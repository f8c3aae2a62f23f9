use Rattle.std.proofs.Common.{◌<◌, length}
use Rattle.zr_digest.proofs.last_sum.Given as goal

abbrev pub invariant-loop : goal.invariant-loop
invariant-loop l = 0 < length l.block
