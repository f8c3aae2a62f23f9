use Rattle.std.proofs.Common.{take}
use Rattle.zr_objset.specs.Changes.{AllIn}
use Rattle.zr_objset.proofs.stores.run_len.Given as goal

abbrev pub invariant-loop-i : goal.invariant-loop-i
invariant-loop-i l = AllIn l.place (take l.i l.rest)
