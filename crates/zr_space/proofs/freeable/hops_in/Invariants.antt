use Rattle.std.proofs.Common.{◌≡◌, ◌+◌, ◌≤◌, nat_lt}
use Rattle.zr_rules.specs.Places.{count_below}
use Rattle.zr_chain.specs.Visits.{hop_hits}
use Rattle.zr_space.proofs.freeable.hops_in.Given as goal

abbrev pub invariant-loop-k : goal.invariant-loop-k
invariant-loop-k l = record {
  so_far : l.count ≡ count_below l.k (λ j. nat_lt 0 (hop_hits l.visits l.dev (l.entry.src + j)));
  few : l.count ≤ l.k;
}
