use Rattle.std.proofs.Common.{All, take}
use Rattle.zr_rules.specs.Resolve.{IsDestination}
use Rattle.zr_chain.specs.Chains.{devices_in}
use Rattle.zr_chain.proofs.devs.is_dev_ranked.Given as goal

abbrev pub invariant-loop-i : goal.invariant-loop-i
invariant-loop-i l = All (IsDestination (devices_in l.devs) l.d) (take l.i l.map.entries)
