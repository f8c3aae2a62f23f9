use Rattle.std.proofs.Common.{ℕ, ◌<◌, All}
use Rattle.zr_rules.specs.Resolve.{IsDestination}
use Rattle.zr_chain.specs.Chains.{devices_in}
use Rattle.zr_chain.proofs.devs.are_ranked.Given as goal

abbrev pub invariant-loop-d : goal.invariant-loop-d
invariant-loop-d l = (d : ℕ) → d < l.d → All (IsDestination (devices_in l.devs) d) ((devices_in l.devs).entries d)
