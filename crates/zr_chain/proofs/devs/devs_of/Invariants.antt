use Rattle.std.proofs.Common.{◌≡◌, map, take}
use Rattle.zr_chain.specs.Chains.{recorded}
use Rattle.zr_chain.proofs.devs.devs_of.Given as goal

abbrev pub invariant-loop-part : goal.invariant-loop-part
invariant-loop-part l = l.devs.items ≡ map recorded (take l.part-index l.parts)
