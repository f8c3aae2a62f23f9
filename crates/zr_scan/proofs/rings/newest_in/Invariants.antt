use Rattle.zr_scan.specs.Rings.{IsNewerOf}
use Rattle.zr_scan.proofs.rings.newest_in.Given as goal

abbrev pub invariant-loop-k : goal.invariant-loop-k
invariant-loop-k l = IsNewerOf l.fn.ring l.k l.fn.guid l.fn.old l.found
