use Rattle.std.proofs.Common.{take}
use Rattle.zr_audit.proofs.Puts.{Has}
use Rattle.zr_audit.proofs.found.put_ends.Given as goal

abbrev pub invariant-loop-v : goal.invariant-loop-v
invariant-loop-v l = Has l.initial.set.extents l.set.extents (take l.v-index l.visits) l.dev l.units
